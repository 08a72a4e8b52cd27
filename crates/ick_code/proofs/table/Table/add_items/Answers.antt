use Rattle.std.proofs.Common.{map, rules}
use Rattle.std.specs.List.{flat_map}
use Rattle.ick_syntax.specs.BodyTree.{item_tree}
use Rattle.ick_code.specs.Names.{names_of_item}
use Rattle.ick_code.specs.Tables.{Adds}
use Rattle.ick_code.proofs.TableLemmas.{came_more, names_none, mapped-step}
use Rattle.ick_code.proofs.table.Table.add_items.Goals.{in-Element, in-Scalar2, in-Mesh}
use Rattle.ick_code.proofs.table.Table.add_items.Goals as goal

pub loop-item-preserved : goal.loop-item-preserved
loop-item-preserved c =
    let now : Adds (names_of_item (item_tree c.item-item.result)) c.loop-item.self c.match-item.self =
    elim c.match-item.branch [
      | in-Element w ↦ search rules
      | in-Scalar2 w ↦ search rules
      | in-Mesh w ↦ search (rules, names_none)
    ] in
    came_more (λ l. flat_map names_of_item (map item_tree l)) (λ x. names_of_item (item_tree x))
    (mapped-step names_of_item item_tree) c.args.self.now c.loop-item.self c.match-item.self
    c.args.items.now c.loop-item.item-index _ _ c.loop-item.invariant now
    c.loop-item-test.true c.item-item.is
