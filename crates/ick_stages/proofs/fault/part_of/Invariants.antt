use Rattle.std.proofs.Common.{◌≡◌, drop}
use Rattle.ick_stages.specs.Faults.{faulty_in}
use Rattle.ick_stages.proofs.fault.part_of.Given as goal

abbrev pub invariant-loop-mark : goal.invariant-loop-mark
invariant-loop-mark l =
    faulty_in l.source l.kind l.marks ≡ faulty_in l.source l.kind (drop l.mark-index l.marks)
