use Rattle.std.proofs.Common.{ap, ◌∙◌, ◌∷◌}
use Rattle.ick_syntax.specs.Tree.{trees_in}
use Rattle.ick_syntax.specs.BodyTree.{body_tree_of}
use Rattle.ick_code.specs.Names.{names_of_trees, names_of_body}
use Rattle.ick_code.proofs.Trees.{names-listed}
use Rattle.ick_code.proofs.TableLemmas.{came_array}
use Rattle.ick_code.proofs.table.Table.add_body.Goals as goal

pub returns-in-Dimension : goal.returns-in-Dimension
returns-in-Dimension c =
    let array = c.in-Dimension.array in
    let es = c.in-Dimension.dimensions.items in
    came_array c.args.self.now c.add.new.self c.add_exprs.new.self array (names_of_trees (trees_in es)) _ c.add.ensures
    c.add_exprs.ensures
    (ap (λ b. names_of_body (body_tree_of b)) c.in-Dimension.is ∙ ap (λ ns. array ∷ ns) (names-listed es))
