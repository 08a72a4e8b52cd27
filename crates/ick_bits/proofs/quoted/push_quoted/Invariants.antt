use Rattle.std.proofs.Common.{◌≡◌, ◌≤◌, ◌-◌, ◌++◌, ◌∷◌, length, take, vec_capacity}
use Rattle.std.specs.List.{flat_map}
use Rattle.ick_bits.specs.Quoted.{escaped}
use Rattle.ick_bits.proofs.quoted.push_quoted.Given as goal

abbrev pub invariant-loop-done : goal.invariant-loop-done
invariant-loop-done l = record {
  within : l.done ≤ length l.text;
  items : l.out.items ≡ l.fn.out.items ++ 34 ∷ flat_map escaped (take l.done l.text);
  capacity : vec_capacity l.fn.out ≤ vec_capacity l.out;
}

abbrev pub decreases-loop-done : goal.decreases-loop-done
decreases-loop-done l = length l.text - l.done
