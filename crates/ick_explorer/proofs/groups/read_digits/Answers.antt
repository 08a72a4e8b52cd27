use Rattle.std.proofs.Common.{◌<◌, ◌≤◌, ◌+◌, ◌*◌, subst, length, get_or, arith}
use Rattle.std.proofs.lemmas.Grind.{common_steps}
use Rattle.std.specs.Char.{digit_value}
use Rattle.std.proofs.lemmas.Int.Digits.{digits_more, digits_value_more}
use Rattle.std.proofs.lemmas.Str.{digit_value_digit}
use Rattle.ick_explorer.specs.Readings.{IsCapped}
use Rattle.ick_explorer.proofs.ReadingLaws.{capped_min, capped_more}
use Rattle.ick_explorer.proofs.groups.read_digits.Goals as goal

pub loop-count-preserved : goal.loop-count-preserved
loop-count-preserved c =
    let text = c.args.text.now in
    let at = c.loop-count.count in
    let i = c.loop-count.invariant in
    let lt : at < length text = grind (arith, common_steps) in
    let low : 48 ≤ get_or text at 0 = grind (arith, common_steps) in
    let high : get_or text at 0 ≤ 57 = grind (arith, common_steps) in
    let is = digit_value_digit (get_or text at 0) (low, high) in
    let digit : digit_value (get_or text at 0) < 10 = omega (arith, is, high) in
    record {
      within = omega arith;
      digits = digits_more 10 text at lt i.digits digit;
      value =
          capped_more c.loop-count.value _ (get_or text at 0) (digit_value (get_or text at 0)) c.min-value.result _
          i.value is
          (subst (λ x. IsCapped c.min-value.result (c.loop-count.value * 10 + x)) c.from.ensures
          (capped_min _ _ c.min-value.ensures)) (digits_value_more 10 text at lt);
    }
