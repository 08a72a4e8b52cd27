use Rattle.std.proofs.Common.{ap, ◌∙◌}
use Rattle.std.specs.List.{list_all}
use Rattle.ick_syntax.specs.NameKinds.{is_item_kinded}
use Rattle.ick_syntax.specs.BodyTree.{place_tree, item_tree}
use Rattle.ick_code.proofs.Trees.{kinded_dimensions, kinded_places, kinded_items}
use Rattle.ick_code.proofs.emit.emit_body.Goals as goal

pub emit_exprs-count-requires-clause-few : goal.emit_exprs-count-requires-clause-few
emit_exprs-count-requires-clause-few c =
    (kinded_dimensions c.in-Dimension.array c.in-Dimension.dimensions c.args.body.now c.in-Dimension.is c.requires).0

pub emit_exprs-count-requires-clause-kinded : goal.emit_exprs-count-requires-clause-kinded
emit_exprs-count-requires-clause-kinded c =
    (kinded_dimensions c.in-Dimension.array c.in-Dimension.dimensions c.args.body.now c.in-Dimension.is c.requires).1

pub emit_places-requires : goal.emit_places-requires
emit_places-requires c =
    ap (list_all (λ place. is_item_kinded (place_tree place))) c.deref-in-WriteIn.ensures.value
    ∙ kinded_places c.in-WriteIn.places c.args.body.now c.in-WriteIn.is c.requires

pub emit_items-requires : goal.emit_items-requires
emit_items-requires c =
    ap (list_all (λ item. is_item_kinded (item_tree item))) c.deref-in-ReadOut.ensures.value
    ∙ kinded_items c.in-ReadOut.items c.args.body.now c.in-ReadOut.is c.requires
