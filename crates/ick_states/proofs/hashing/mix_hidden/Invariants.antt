use Rattle.std.proofs.Common.{◌≡◌, map, take, length}
use Rattle.std.specs.List.{fold}
use Rattle.ick_runtime.specs.View.{is_hidden}
use Rattle.ick_states.specs.Hashed.{mix, mix_bit}
use Rattle.ick_states.proofs.hashing.mix_hidden.Given as goal

abbrev pub invariant-loop-at : goal.invariant-loop-at
invariant-loop-at l =
    l.hash ≡ fold mix_bit (mix l.fn.hash (length l.arrays)) (take l.at (map is_hidden l.arrays))
