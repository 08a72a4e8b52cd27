use Rattle.std.proofs.Common.{◌≡◌, true, false, arith, sym, ◌∙◌}
use Rattle.ick_source.specs.Bytes.{byte}
use Rattle.ick_source.specs.Token.{is_digit}
use Rattle.ick_source.proofs.ByteLemmas.{digit_inside}
use Rattle.ick_source.proofs.DigitLemmas.{digit_more, digits_between, zero_end, zero_step}
use Rattle.ick_source.proofs.digits.significant_at.Goals as goal

pub zeros-preserved : goal.zeros-preserved
zeros-preserved c =
    let zero = c.zeros-test.true in
    let value = c.byte_at.ensures.value in
    let lt = c.byte_at.ensures.inside (λ z. omega (arith, z, zero)) in
    record {
      inside = omega (arith, lt);
      same =
          sym (zero_step c.args.text.now c.zeros.from lt (sym value ∙ zero)) ∙ c.zeros.invariant.same;
    }

pub digits-smaller : goal.digits-smaller
digits-smaller c =
    let value = c.byte_at-in-digits.ensures.value in
    let test = c.is_digit_byte.ensures in
    let yes = c.digits-test.true in
    let digit : is_digit (byte c.args.text.now c.digits.to) ≡ true = cc in
    let lt = digit_inside c.args.text.now c.digits.to digit in
    omega (arith, lt)

pub digits-preserved : goal.digits-preserved
digits-preserved c =
    let value = c.byte_at-in-digits.ensures.value in
    let test = c.is_digit_byte.ensures in
    let yes = c.digits-test.true in
    let digit : is_digit (byte c.args.text.now c.digits.to) ≡ true = cc in
    let lt = digit_inside c.args.text.now c.digits.to digit in
    let read = c.digits.invariant in
    record {
      order = omega (arith, read.order);
      inside = omega (arith, lt);
      same = digit_more c.args.text.now c.zeros.from c.digits.to read.order lt digit read.same;
    }

pub returns : goal.returns
returns c =
    let value = c.byte_at-in-digits.ensures.value in
    let test = c.is_digit_byte.ensures in
    let no = c.digits-test.false in
    let digit : is_digit (byte c.args.text.now c.digits.to) ≡ false = cc in
    digits_between c.args.text.now c.zeros.from c.digits.to digit c.digits.invariant.same
    ∙ sym (zero_end c.args.text.now c.zeros.from (λ e. c.zeros-test.false (c.byte_at.ensures.value ∙ e)))
    ∙ c.zeros.invariant.same
