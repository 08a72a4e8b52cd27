use Rattle.std.proofs.Common.{map, rules}
use Rattle.std.specs.List.{flat_map}
use Rattle.ick_syntax.specs.BodyTree.{place_tree}
use Rattle.ick_code.specs.Names.{names_of_item}
use Rattle.ick_code.specs.Tables.{Adds}
use Rattle.ick_code.proofs.TableLemmas.{came_more, mapped-step}
use Rattle.ick_code.proofs.table.Table.add_places.Goals.{in-Element, in-Scalar2}
use Rattle.ick_code.proofs.table.Table.add_places.Goals as goal

pub loop-place-preserved : goal.loop-place-preserved
loop-place-preserved c =
    let now : Adds (names_of_item (place_tree c.place-item.result)) c.loop-place.self c.match-place.self =
    elim c.match-place.branch [
      | in-Element w ↦ search rules
      | in-Scalar2 w ↦ search rules
    ] in
    came_more (λ l. flat_map names_of_item (map place_tree l)) (λ x. names_of_item (place_tree x))
    (mapped-step names_of_item place_tree) c.args.self.now c.loop-place.self c.match-place.self
    c.args.places.now c.loop-place.place-index _ _ c.loop-place.invariant now
    c.loop-place-test.true c.place-item.is
