use Rattle.std.proofs.Common.{take, map}
use Rattle.std.specs.List.{flat_map}
use Rattle.ick_syntax.specs.BodyTree.{item_tree}
use Rattle.ick_code.specs.Names.{names_of_item}
use Rattle.ick_code.specs.Tables.{Adds}
use Rattle.ick_code.proofs.table.Table.add_items.Given as goal

abbrev pub invariant-loop-item : goal.invariant-loop-item
invariant-loop-item l =
    Adds (flat_map names_of_item (map item_tree (take l.item-index l.items))) l.initial.self l.self
