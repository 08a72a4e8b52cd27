use Rattle.std.proofs.Common.{◌∙◌, ap, sym, ◌++◌, take}
use Rattle.std.specs.Prelude.{codes, decimal}
use Rattle.ick_inspect.specs.Text.{numbers_text}
use Rattle.ick_inspect.proofs.AddLaws.{nothing, pieces_taken, same, then}
use Rattle.ick_stages.proofs.table.append_numbers.Goals as goal

pub loop-number-init : goal.loop-number-init
unfolding numbers_text
loop-number-init c = nothing c.args.text.now

pub loop-number-preserved : goal.loop-number-preserved
unfolding numbers_text
loop-number-preserved c =
    same (ap (λ n. numbers_text (codes " ") (take c.loop-number.number-index c.args.numbers.now)
    ++ (codes " " ++ decimal n)) c.from.ensures
    ∙ sym (pieces_taken (λ n. codes " " ++ decimal n) c.args.numbers.now c.loop-number.number-index 0
    c.loop-number-test.true))
    (then c.loop-number.invariant (then c.push.ensures c.push_decimal.ensures))
