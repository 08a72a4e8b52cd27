-- Proves that a text says how many outcomes and runs there are.
use Rattle.std.proofs.Common.{◌≡◌, ℕ, ◌<◌, List, ◌++◌, Some, None, length, ap, sym, ◌∙◌, subst}
use Rattle.std.specs.Prelude.{codes}
use Rattle.ick_code.specs.meaning.State.{State}
use Rattle.ick_outcomes.specs.Programs.{Program}
use Rattle.ick_outcomes.specs.Texts.{IsNumberText}
use Rattle.ick_chain.specs.ExactListings.{IsMeanText, IsTotal, all_runs, finite, stuck, endless, numbers_text}
use Rattle.ick_chain.specs.Lines.{lines_of}
use Rattle.ick_chain.specs.declared.line.Line.{Line as KeptLine}
use Rattle.ick_chain.proofs.LineTexts.{lines-long}

pub total_stuck : (p : Program) (s : State) (never : ℕ) (lines : List KeptLine) (n : ℕ) (text : List ℕ) →
    n ≡ length lines → 0 < never → text ≡ numbers_text n (codes "*") ++ codes "\n" →
    IsTotal p s never (lines_of lines) text
total_stuck p s never lines n text e lt t =
    subst (IsTotal p s never (lines_of lines))
    (sym (t ∙ ap (λ z. numbers_text z (codes "*") ++ codes "\n") (e ∙ sym (lines-long lines)))) (stuck lt)

pub total_finite : (p : Program) (s : State) (never : ℕ) (lines : List KeptLine) (n k : ℕ) (runs text : List ℕ) →
    n ≡ length lines → never ≡ 0 → all_runs (lines_of lines) ≡ Some k → IsNumberText k runs →
    text ≡ numbers_text n runs ++ codes "\n" → IsTotal p s never (lines_of lines) text
total_finite p s never lines n k runs text e z all r t =
    subst (IsTotal p s never (lines_of lines))
    (sym (t ∙ ap (λ y. numbers_text y runs ++ codes "\n") (e ∙ sym (lines-long lines))))
    (finite k runs z all r)

pub total_endless : (p : Program) (s : State) (never : ℕ) (lines : List KeptLine) (n : ℕ) (mean text : List ℕ) →
    n ≡ length lines → never ≡ 0 → all_runs (lines_of lines) ≡ None → IsMeanText p s mean →
    text ≡ numbers_text n (codes "*") ++ codes ", " ++ mean ++ codes " STEPS\n" →
    IsTotal p s never (lines_of lines) text
total_endless p s never lines n mean text e z all m t =
    subst (IsTotal p s never (lines_of lines))
    (sym (t ∙ ap (λ y. numbers_text y (codes "*") ++ codes ", " ++ mean ++ codes " STEPS\n")
    (e ∙ sym (lines-long lines)))) (endless mean z all m)
