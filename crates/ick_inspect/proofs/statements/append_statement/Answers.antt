use Rattle.ick_code.specs.Compiled.{code_program}
use Rattle.ick_code.specs.meaning.State.{statement_at}
use Rattle.ick_inspect.specs.Statements.{statement_text}
use Rattle.ick_inspect.proofs.AddLaws.{same, then}
use Rattle.ick_inspect.proofs.TextLemmas.{text_is}
use Rattle.ick_inspect.proofs.statements.append_statement.Goals as goal

pub returns : goal.returns
unfolding statement_text
returns c =
    same (cc (text_is (statement_at (code_program c.args.code.now) c.args.n) c.text.result.now c.text.ensures))
    (then (then (then (then c.push_decimal.ensures c.push.ensures) c.append_position.ensures) c.push-2.ensures)
    c.push_quoted.ensures)
