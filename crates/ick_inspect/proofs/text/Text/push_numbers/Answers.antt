use Rattle.std.proofs.Common.{◌∙◌, ap, sym, ◌++◌, take}
use Rattle.std.specs.Prelude.{decimal}
use Rattle.ick_inspect.specs.Text.{numbers_text}
use Rattle.ick_inspect.proofs.AddLaws.{nothing, same, then}
use Rattle.ick_inspect.proofs.TextLemmas.{numbers_more}
use Rattle.ick_inspect.proofs.text.Text.push_numbers.Goals as goal

pub loop-number-init : goal.loop-number-init
unfolding numbers_text
loop-number-init c = nothing c.args.self.now

pub loop-number-preserved : goal.loop-number-preserved
loop-number-preserved c =
    same (ap (λ n. numbers_text c.args.before.now (take c.loop-number.number-index c.args.numbers.now)
    ++ (c.args.before.now ++ decimal n)) c.from.ensures
    ∙ sym (numbers_more c.args.before.now c.args.numbers.now c.loop-number.number-index c.loop-number-test.true))
    (then c.loop-number.invariant (then c.push.ensures c.push_decimal.ensures))
