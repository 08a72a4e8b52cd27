use Rattle.std.proofs.Common.{◌≡◌, ◌<◌, ◌≤◌, ◌+◌, ◌&&◌, true, length, get_or, take, sym, ap, ◌∙◌, arith}
use Rattle.std.proofs.lemmas.Grind.{common_steps}
use Rattle.std.proofs.lemmas.List.{take_all}
use Rattle.std.proofs.lemmas.List.Folds.{list_all_more}
use Rattle.std.proofs.lemmas.Int.Digits.{digits_value_more}
use Rattle.std.proofs.lemmas.Str.{digit_value_digit}
use Rattle.std.proofs.lemmas.Str.Parse.{digits_value-take-le}
use Rattle.std.specs.Char.{is_ascii_digit}
use Rattle.std.specs.List.{list_all}
use Rattle.std.specs.Str.Parse.{digits_value}
use Rattle.ick_session.proofs.WordLaws.{is_number, too_large}
use Rattle.ick_session.proofs.commands.number_in.Goals as goal

pub returns-then-next-from : goal.returns-then-next-from
returns-then-next-from c =
    let word = c.args.word.now in
    let at = c.loop-byte.byte-index in
    let lt : at < length word = c.loop-byte-test.true in
    let low : 48 ≤ get_or word at 0 = grind (arith, common_steps) in
    let high : get_or word at 0 ≤ 57 = grind (arith, common_steps) in
    let is = digit_value_digit (get_or word at 0) (low, high) in
    let more = digits_value_more 10 word at lt in
    let le = digits_value-take-le 10 word (at + 1) (omega arith) in
    too_large word (omega (
      arith,
      is,
      more,
      le,
      c.loop-byte.invariant.value,
      c.from.ensures,
      c.from-in-loop-byte.ensures,
      c.from-in-loop-byte-2.ensures,
      c.if-next-from.true,
    ))

pub loop-byte-preserved : goal.loop-byte-preserved
loop-byte-preserved c =
    let word = c.args.word.now in
    let at = c.loop-byte.byte-index in
    let lt : at < length word = c.loop-byte-test.true in
    let low : 48 ≤ get_or word at 0 = grind (arith, common_steps) in
    let high : get_or word at 0 ≤ 57 = grind (arith, common_steps) in
    let is = digit_value_digit (get_or word at 0) (low, high) in
    let more = digits_value_more 10 word at lt in
    let yes : is_ascii_digit (get_or word at 0) ≡ true = grind (arith, common_steps) in
    record {
      fits = omega (arith, c.from-in-loop-byte-2.ensures, c.if-next-from.false);
      digits = list_all_more is_ascii_digit word at 0 lt
          ∙ (ap (λ b. b && is_ascii_digit (get_or word at 0)) c.loop-byte.invariant.digits ∙ yes);
      value = omega (arith, is, more, c.loop-byte.invariant.value, c.from.ensures, c.from-in-loop-byte.ensures);
    }

pub returns : goal.returns
returns c =
    let word = c.args.word.now in
    let all : take c.loop-byte.byte-index word ≡ word = take_all c.loop-byte.byte-index word c.loop-byte-test.false in
    let digits = ap (list_all is_ascii_digit) (sym all) ∙ c.loop-byte.invariant.digits in
    let value = c.loop-byte.invariant.value ∙ ap (digits_value 10) all in
    rw value (is_number word (grind (arith, common_steps)) digits (omega (arith, value, c.loop-byte.invariant.fits)))
