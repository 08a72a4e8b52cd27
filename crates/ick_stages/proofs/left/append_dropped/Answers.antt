use Rattle.std.proofs.Common.{sym}
use Rattle.ick_inspect.proofs.AddLaws.{pieces_taken, same, then}
use Rattle.ick_stages.specs.Left.{dropped_by}
use Rattle.ick_stages.specs.Registers.{names_of}
use Rattle.ick_stages.specs.Steps.{made_of}
use Rattle.ick_stages.proofs.left.append_dropped.Goals as goal

pub loop-at-preserved : goal.loop-at-preserved
loop-at-preserved c =
    same (sym (pieces_taken (λ at. dropped_by (names_of c.args.registers.now) c.args.draft.now.instructions.items
    (made_of c.args.makers.now).first at) c.args.dropped.now c.loop-at.at-index _ c.loop-at-test.true))
    (then c.loop-at.invariant c.append_dropped_at.ensures)
