use Rattle.std.proofs.Common.{take}
use Rattle.ick_code.specs.Operations.{gerund_ops}
use Rattle.ick_code.specs.Forms.{on_gerund_of}
use Rattle.ick_code.specs.Emitted.{Emits}
use Rattle.ick_code.proofs.emit.emit_gerunds.Given as goal

abbrev pub invariant-loop-gerund : goal.invariant-loop-gerund
invariant-loop-gerund l =
    Emits (gerund_ops (on_gerund_of l.switch) (take l.gerund-index l.gerunds)) l.initial.draft l.draft
