use Rattle.std.proofs.Common.{map, false}
use Rattle.ick_syntax.specs.BodyTree.{body_tree_of}
use Rattle.ick_syntax.specs.StatementTree.{statement_tree_of}
use Rattle.ick_code.specs.Names.{names_of_body, names_of}
use Rattle.ick_code.proofs.TableLemmas.{came_more, mapped-step}
use Rattle.ick_code.proofs.table.Table.new.Goals as goal

pub loop-statement-preserved : goal.loop-statement-preserved
loop-statement-preserved c =
    came_more (λ l. names_of (map statement_tree_of l)) (λ x. names_of_body (body_tree_of x.body))
    (mapped-step (λ x. names_of_body x.body) statement_tree_of)
    (record { scalars = c.new.result; arrays = c.new-2.result; refused = false }) c.loop-statement.table
    c.add_body.new.self c.args.statements.now
    c.loop-statement.statement-index _ _ c.loop-statement.invariant c.add_body.ensures c.loop-statement-test.true
    c.statement-item.is
