-- What was printed is read back.
use Rattle.std.proofs.Common.{◌≡◌, ◌⊎◌, inl, inr, ℕ, ◌^◌, ◌<◌, ◌≤◌, Bool, List, length, ap}
use Rattle.std.proofs.Common.{sym, subst, arith}
use Rattle.ick_explorer.specs.ChoiceTexts.{choices_text, IsTextOf}
use Rattle.ick_explorer.specs.declared.errors.RunsError.{RunsError}
use Rattle.ick_explorer.specs.declared.errors.RunsError.TheVariants.{NoMemory, NoSuchRun, BadCursor}
use Rattle.ick_explorer.proofs.GroupLaws.{choices_read, reads_one}

pub back_ok : (text : List ℕ) (limit : ℕ) (d : List Bool) → limit < 2 ^ 32 →
    IsTextOf text d → (c : List Bool) → text ≡ choices_text c → length c ≤ limit → d ≡ c
back_ok text limit d cap h c e le =
    reads_one text d c h (subst (λ t. IsTextOf t c) (sym e) (choices_read c (omega arith)))

pub back_error : (text : List ℕ) (limit : ℕ) (x : RunsError) →
    limit < 2 ^ 32 → (x ≡ BadCursor → (d : List Bool) → ¬ IsTextOf text d) →
    (x ≡ NoSuchRun → (d : List Bool) × IsTextOf text d × (limit < length d)) →
    (x ≡ NoMemory) ⊎ ((x ≡ NoSuchRun) ⊎ (x ≡ BadCursor)) →
    (c : List Bool) → text ≡ choices_text c → length c ≤ limit → x ≡ NoMemory
back_error text limit x cap bad beyond errors c e le =
    let mine = subst (λ t. IsTextOf t c) (sym e) (choices_read c (omega arith)) in
    elim errors [
      | inl m ↦ m
      | inr other ↦ elim other [
        | inl n ↦
            let d = beyond n in
            let same : length d.0 ≡ length c = ap length (reads_one text d.0 c d.1 mine) in
            absurd (omega (arith, d.2, same, le))
        | inr b ↦ absurd (bad b c mine)
      ]
    ]
