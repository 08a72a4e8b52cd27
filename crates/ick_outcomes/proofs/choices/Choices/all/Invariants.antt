use Rattle.std.proofs.Common.{◌≡◌, [], take}
use Rattle.ick_outcomes.specs.Packed.{unpacked}
use Rattle.ick_outcomes.proofs.choices.Choices.all.Given as goal

abbrev pub invariant-bytes : goal.invariant-bytes
invariant-bytes l = l.all.items ≡ unpacked (take l.at l.self.packed.items) []
