use Rattle.ick_places.proofs.ExpressionWalks.{walks_leaf}
use Rattle.ick_places.proofs.walker.Walker.leaf.Goals as goal

pub returns : goal.returns
returns c =
    walks_leaf c.args.kind _ _ _ _ _ _ c.args.from c.requires c.lead-inside.ensures c.unary.ensures c.number.ensures
    (rw c.part_of.ensures at c.mark.ensures) c.applied.ensures
