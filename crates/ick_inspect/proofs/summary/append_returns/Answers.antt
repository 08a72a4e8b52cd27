use Rattle.std.proofs.Common.{◌++◌, ◌∙◌, ap, arith, sym, take}
use Rattle.std.specs.Prelude.{codes, decimal, reverse}
use Rattle.std.proofs.lemmas.Grind.{common_steps}
use Rattle.ick_inspect.specs.Text.{numbers_text}
use Rattle.ick_inspect.proofs.AddLaws.{nothing, same, then}
use Rattle.ick_inspect.proofs.TextLemmas.{all_returns, no_returns, reverse_more}
use Rattle.ick_inspect.proofs.summary.append_returns.Goals as goal

pub returns-then-is_empty : goal.returns-then-is_empty
returns-then-is_empty c =
    same (sym (no_returns c.args.returns.now (grind (arith, common_steps)))) c.push.ensures

pub loop-back-init : goal.loop-back-init
unfolding numbers_text
loop-back-init c = nothing c.args.text.now

pub loop-back-preserved : goal.loop-back-preserved
loop-back-preserved c =
    same (ap (λ n. numbers_text (codes " ") (take c.loop-back.back (reverse c.args.returns.now))
    ++ (codes " " ++ decimal n)) c.from.ensures
    ∙ sym (reverse_more c.args.returns.now c.loop-back.back (omega arith)))
    (then c.loop-back.invariant (then c.push-in-loop-back.ensures c.push_decimal.ensures))

pub returns : goal.returns
returns c =
    same (all_returns c.args.returns.now c.loop-back.back (omega arith) (grind (arith, common_steps)))
    c.loop-back.invariant
