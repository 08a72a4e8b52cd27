use Rattle.ick_machine.specs.StateView.{present_state}
use Rattle.ick_syntax.specs.StatementTree.{statement_trees}
use Rattle.ick_syntax.specs.Tree.{tree_of}
use Rattle.ick_session.specs.Evaluated.{no_calculation, no_expression_text}
use Rattle.ick_session.proofs.EvaluatedLaws.{calculated_is}
use Rattle.ick_session.proofs.evaluated.append_calculated.Goals as goal

pub returns-in_ok-outcome-in-Some : goal.returns-in_ok-outcome-in-Some
returns-in_ok-outcome-in-Some c =
    calculated_is (present_state c.args.present.now) (statement_trees c.args.statements.now)
    (tree_of c.in-Some.expression.now) c.in_ok-outcome-in-Some.outcome c.args.out.now c.append_outcome.new.out
    c.in-Some.ensures c.in_ok-outcome-in-Some.ensures c.append_outcome.ensures

pub returns-in-None : goal.returns-in-None
returns-in-None c = (no_expression_text, no_calculation c.in-None.ensures, c.push.ensures)
