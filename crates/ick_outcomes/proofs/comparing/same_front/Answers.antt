use Rattle.ick_outcomes.proofs.PlaceByPlace.{same_blocks, same_lists}
use Rattle.ick_outcomes.proofs.comparing.same_front.Goals as goal

pub fronts-preserved : goal.fronts-preserved
fronts-preserved c =
    same_blocks c.args.one.now c.args.other.now c.fronts.block c.fronts.invariant
    (same_lists _ _ _ c.eq-same.ensures c.if-not-same.false)
