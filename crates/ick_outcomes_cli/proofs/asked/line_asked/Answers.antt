use Rattle.std.proofs.Common.{◌∙◌, Err, ap, inl, inr, refl, subst, sym}
use Rattle.std.proofs.lemmas.Option.{IfSome_then}
use Rattle.std.proofs.lemmas.Result.{IfOk-weaker}
use Rattle.ick_explorer.specs.ChoiceTexts.{IsTextOf}
use Rattle.ick_outcomes_cli.proofs.Explaining.{is_first, long_list, no_list, no_text, no_word, other_list, refused_so}
use Rattle.ick_outcomes_cli.proofs.asked.line_asked.Goals as goal

pub returns-in_default-clause-none : goal.returns-in_default-clause-none
returns-in_default-clause-none g c = λ e runs h. no_word _ (c.in_default.ensures.none refl) h.word h.is_word

pub returns-in-Ok-clause-some : goal.returns-in-Ok-clause-some
returns-in-Ok-clause-some g c =
    let is = is_first _ _ _ c.in-Some.ensures.whole c.in-Some.ensures.first in
    let reads = subst (IsTextOf _) (sym c.choices.ensures) c.in-Ok.ensures.ok.0 in
    IfOk-weaker c.run_asked.result _ _ (λ found h. IfSome_then found h (λ text p.
    (_, record { line_of = p.0; word = _; is_word = is; reads = reads }, p.1))) c.run_asked.ensures.some

pub returns-in-Ok-clause-none : goal.returns-in-Ok-clause-none
returns-in-Ok-clause-none g c = λ e.
    let is = is_first _ _ _ c.in-Some.ensures.whole c.in-Some.ensures.first in
    let reads = subst (IsTextOf _) (sym c.choices.ensures) c.in-Ok.ensures.ok.0 in
    other_list _ _ _ _ _ c.choices.result.now c.one_reading.ensures is reads (c.run_asked.ensures.none e)

pub returns-in-Err-clause-some : goal.returns-in-Err-clause-some
returns-in-Err-clause-some g c =
    IfOk-weaker c.refused_word.result _ _ (λ found h. no_text found _ h.0) c.refused_word.ensures

pub returns-in-Err-clause-none : goal.returns-in-Err-clause-none
returns-in-Err-clause-none g c = λ e.
    let is = is_first _ _ _ c.in-Some.ensures.whole c.in-Some.ensures.first in
    let other = refused_so _ _ c.refused_word.ensures e in
    elim c.in-Err.ensures.errors [
      | inl memory ↦ absurd (other memory)
      | inr (inl long) ↦
          let found = c.from_text.ensures.no_such_run (c.in-Err.is ∙ ap (λ x. Err x) long) in
          long_list _ _ _ _ _ found.0 c.one_reading.ensures (c.runs_are_limited.ensures _ _ _) is found.1 found.2
      | inr (inr bad) ↦ no_list _ _ _ _ _ is (c.from_text.ensures.bad_cursor (c.in-Err.is ∙ ap (λ x. Err x) bad))
    ]
