use Rattle.std.proofs.Common.{sym, ◌∙◌}
use Rattle.ick_places.proofs.BodyWalks.{walks_spot, walks_whole, walks_element_place}
use Rattle.ick_places.proofs.walker.Walker.place_after.Goals as goal

pub returns-in_default : goal.returns-in_default
returns-in_default c =
    walks_spot _ _ _ c.args.from c.args.printed _ c.requires c.in_default.not-Array c.number.ensures c.acted.ensures

pub returns-then-is_whole : goal.returns-then-is_whole
returns-then-is_whole c =
    walks_whole c.in-Array.kind _ _ _ c.args.from c.args.printed _ _ c.requires c.in-Array.is c.number.ensures
    c.sees.ensures (sym c.is_whole.ensures ∙ c.if-is_whole.true) c.mark.ensures

pub returns : goal.returns
returns c =
    walks_element_place c.in-Array.kind _ _ _ _ _ c.args.from c.args.printed _ _ c.requires c.in-Array.is c.number.ensures
    c.sees.ensures (sym c.is_whole.ensures ∙ c.if-is_whole.false) c.mark-2.ensures c.indices.ensures c.acted-2.ensures
