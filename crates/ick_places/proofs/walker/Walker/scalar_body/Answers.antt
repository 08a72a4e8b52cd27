use Rattle.ick_places.proofs.BodyWalks.{walks_scalar}
use Rattle.ick_places.proofs.walker.Walker.scalar_body.Goals as goal

pub returns : goal.returns
returns c =
    walks_scalar c.args.kind _ _ _ _ _ c.args.from c.requires c.number.ensures c.mark.ensures c.assigned.ensures
    c.mark-2.ensures
