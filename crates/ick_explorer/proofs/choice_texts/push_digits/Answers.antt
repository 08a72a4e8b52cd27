use Rattle.std.proofs.Common.{◌≡◌, ℕ, zero, suc, ◌+◌, ◌<◌, ◌≤◌, Bool, false, List, [], ◌∷◌, ◌++◌, length, take}
use Rattle.std.proofs.Common.{get_or, map, refl, ap, sym, ◌∙◌, append_assoc, arith}
use Rattle.ick_explorer.specs.ChoiceTexts.{digit_of}
use Rattle.ick_explorer.proofs.choice_texts.push_digits.Goals as goal

one_more_digit : (choices : List Bool) (i : ℕ) → i < length choices → map digit_of (take (i + 1) choices)
    ≡ map digit_of (take i choices) ++ digit_of (get_or choices i false) ∷ []
one_more_digit [] i h = absurd (omega arith)
one_more_digit (x ∷ choices) zero h = refl
one_more_digit (x ∷ choices) (suc i) h =
    let next : suc i + 1 ≡ suc (i + 1) = omega arith in
    ap (λ n. map digit_of (take n (x ∷ choices))) next
    ∙ ap (λ r. digit_of x ∷ r) (one_more_digit choices i (omega arith))

all_digits : (choices : List Bool) (i : ℕ) → length choices ≤ i →
    map digit_of (take i choices) ≡ map digit_of choices
all_digits [] zero h = refl
all_digits [] (suc i) h = refl
all_digits (x ∷ choices) zero h = absurd (omega arith)
all_digits (x ∷ choices) (suc i) h = ap (λ r. digit_of x ∷ r) (all_digits choices i (omega arith))

pub loop-choice-preserved : goal.loop-choice-preserved
loop-choice-preserved c =
    let i = c.loop-choice.choice-index in
    let choices = c.args.choices.now in
    let out = c.args.out.now.items in
    record {
      items = c.push_reserved.ensures.items
          ∙ (ap (λ x. x ++ c.digit.result ∷ []) c.loop-choice.invariant.items
          ∙ (append_assoc out (map digit_of (take i choices)) (c.digit.result ∷ [])
          ∙ ap (λ x. out ++ x) (ap (λ d. map digit_of (take i choices) ++ d ∷ []) c.digit.ensures
          ∙ sym (one_more_digit choices i c.loop-choice-test.true))));
      len = omega (arith, c.loop-choice.invariant.len, c.push_reserved.ensures.len);
      room = omega (arith, c.loop-choice.invariant.room, c.push_reserved.ensures.capacity);
      capacity = omega (arith, c.loop-choice.invariant.capacity, c.push_reserved.ensures.capacity);
    }

pub returns-clause-ok : goal.returns-clause-ok
returns-clause-ok c =
    let i = c.loop-choice.choice-index in
    let all : length c.args.choices.now ≤ i = c.loop-choice-test.false in
    c.loop-choice.invariant.items ∙ ap (λ x. c.args.out.now.items ++ x) (all_digits c.args.choices.now i all)
