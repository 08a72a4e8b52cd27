use Rattle.std.proofs.Common.{◌≡◌, ◌+◌, length, take}
use Rattle.std.specs.List.{flat_map}
use Rattle.ick_bits.specs.Quoted.{escaped}
use Rattle.ick_outcomes.proofs.quoting.without.Given as goal

abbrev pub invariant-bytes : goal.invariant-bytes
invariant-bytes l = l.kept + length (flat_map escaped (take l.byte-index l.bytes)) ≡ l.from
