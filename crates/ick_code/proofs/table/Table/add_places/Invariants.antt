use Rattle.std.proofs.Common.{take, map}
use Rattle.std.specs.List.{flat_map}
use Rattle.ick_syntax.specs.BodyTree.{place_tree}
use Rattle.ick_code.specs.Names.{names_of_item}
use Rattle.ick_code.specs.Tables.{Adds}
use Rattle.ick_code.proofs.table.Table.add_places.Given as goal

abbrev pub invariant-loop-place : goal.invariant-loop-place
invariant-loop-place l =
    Adds (flat_map names_of_item (map place_tree (take l.place-index l.places))) l.initial.self l.self
