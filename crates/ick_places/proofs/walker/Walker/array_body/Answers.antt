use Rattle.ick_places.proofs.BodyWalks.{walks_array}
use Rattle.ick_places.proofs.walker.Walker.array_body.Goals as goal

pub returns : goal.returns
returns c =
    walks_array c.args.kind _ _ _ _ _ c.args.from c.requires c.number.ensures c.mark.ensures c.array_value.ensures
    (c.array_value.ensures (record { kind = c.args.kind; number = 0 })).keeps c.mark-2.ensures
