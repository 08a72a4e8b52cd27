use Rattle.std.proofs.Common.{◌∙◌, ap}
use Rattle.ick_inspect.proofs.AddLaws.{same, then}
use Rattle.ick_stages.specs.Statements.{end_text, placed_line}
use Rattle.ick_syntax.specs.Kinds.{kind_word}
use Rattle.ick_stages.proofs.statement.append_line.Goals as goal

pub returns : goal.returns
unfolding placed_line
returns c =
    then (then c.append_front.ensures (same c.head_words.ensures c.push.ensures))
    (same (ap (λ k. end_text c.args.statement.now.chance k c.args.statement.now.text.now)
    (c.word.ensures ∙ ap kind_word c.kind-kind.ensures)) c.append_end.ensures)
