use Rattle.std.proofs.Common.{take_all}
use Rattle.ick_places.proofs.AddLemmas.{adds_none, adds_then, adds_as, taken-more}
use Rattle.ick_places.proofs.walker.Walker.append.Goals as goal

pub loop-mark-init : goal.loop-mark-init
loop-mark-init c = adds_none _

pub loop-mark-preserved : goal.loop-mark-preserved
loop-mark-preserved c =
    adds_as (taken-more c.args.marks.now c.loop-mark.mark-index _ c.loop-mark-test.true)
    (adds_then c.loop-mark.invariant c.push.ensures)

pub returns : goal.returns
returns c = adds_as (take_all _ c.args.marks.now c.loop-mark-test.false) c.loop-mark.invariant
