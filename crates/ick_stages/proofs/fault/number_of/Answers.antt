use Rattle.std.proofs.Common.{◌≡◌, ◌∙◌, ◌+◌, ◌-◌, ◌*◌, ap, arith, inl, inr, min, refl}
use Rattle.ick_source.specs.Bytes.{byte}
use Rattle.ick_source.specs.Token.{cap, is_digit, value_of_digits}
use Rattle.ick_stages.specs.Faults.{digits_in, number_of}
use Rattle.ick_stages.proofs.FaultLaws.{number_first, number_more}
use Rattle.ick_stages.proofs.fault.number_of.Goals as goal

pub loop-at-init : goal.loop-at-init
loop-at-init c =
    let none : 0 ≡ c.args.span.from - c.args.span.from = omega arith in
    record {
      order = omega arith;
      bound = inr refl;
      value = number_first c.args.source.now c.args.span.from
          ∙ ap (λ n. min (value_of_digits (digits_in c.args.source.now c.args.span.from n)) cap) none;
    }

pub loop-at-preserved : goal.loop-at-preserved
loop-at-preserved c =
    let source = c.args.source.now in
    let from = c.args.span.from in
    let at = c.loop-at.at in
    let before = c.loop-at.invariant in
    let here : at ≡ from + (at - from) = omega (arith, before.order) in
    let next : (at - from) + 1 ≡ at + 1 - from = omega (arith, before.order) in
    let is : c.byte_at.result ≡ byte source (from + (at - from)) = c.byte_at.ensures.value ∙ ap (byte source) here in
    record {
      order = omega (arith, before.order);
      bound = inl (let test = c.loop-at-test.true in omega arith);
      value = number_more source from (at - from) _ _ before.value
          (λ e. c.with_byte-number.ensures.digit (ap is_digit is ∙ e)
          ∙ ap (λ b. min (c.loop-at.number * 10 + (b - 48)) cap) is)
          (λ e. c.with_byte-number.ensures.other (ap is_digit is ∙ e))
          ∙ ap (λ n. min (value_of_digits (digits_in source from n)) cap) next;
    }

pub returns : goal.returns
unfolding number_of
returns c =
    let source = c.args.source.now in
    let from = c.args.span.from in
    let before = c.loop-at.invariant in
    let all : c.loop-at.at - from ≡ c.args.span.to - from =
    elim before.bound [
      | inl low ↦ let test = c.loop-at-test.false in omega (arith, low)
      | inr same ↦ let test = c.loop-at-test.false in omega (arith, same)
    ] in
    before.value ∙ ap (λ n. min (value_of_digits (digits_in source from n)) cap) all
