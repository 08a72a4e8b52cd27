-- What leaves of the output of a run.
use Rattle.std.proofs.Common.{◌≡◌, ℕ, zero, suc, ◌+◌, ◌≤◌, Bool, true, false, List, [], ◌++◌, length, take, drop}
use Rattle.std.proofs.Common.{◌-◌, refl, sym, ap, ◌∙◌, subst, arith, append_assoc, length-drop, inl, inr}
use Rattle.std.proofs.Props.{props}
use Rattle.std.proofs.Math.Seq.{take-length, take-add}
use Rattle.std.proofs.lemmas.Bool.{cases_lt, false≢true}
use Rattle.std.proofs.lemmas.List.{append-nil, take_all, take-append-le}
use mathlib.Core.Logic.{∥∥₁_elim, ∥∥₁_map}
use Rattle.ick_code.{proofs.Leads.advance_leads, specs.meaning.State.State}
use Rattle.ick_backtrack.specs.{Machine.Program, Steps.{IsPlain, after_steps}}
use Rattle.ick_machine.{proofs.StepsLemmas.no_step, specs.Printing.{Reaches, HasLeft, MayLeave}}

module _ (program : Program) (s : State) where
  -- output only grows
  grows : (i j : ℕ) →
      (more : List ℕ) × ((after_steps program s (i + j)).output ≡ (after_steps program s i).output ++ more)
  grows i zero =
      let same : i + 0 ≡ i = omega arith in
      ([], ap (λ k. (after_steps program s k).output) same ∙ sym (append-nil (after_steps program s i).output))
  grows i (suc j) =
      let before = grows i j in
      let next = (advance_leads program (after_steps program s (i + j)) false).grows in
      let same : i + suc j ≡ suc (i + j) = omega arith in (
        before.0 ++ next.0,
        ap (λ k. (after_steps program s k).output) same ∙ next.1 ∙ ap (λ o. o ++ next.0) before.1
            ∙ append_assoc (after_steps program s i).output before.0 next.0,
      )

  later_front : (i j n : ℕ) → i ≤ j → n ≤ length (after_steps program s i).output →
      take n (after_steps program s j).output ≡ take n (after_steps program s i).output
  later_front i j n le few =
      let more = grows i (j - i) in
      let same : i + (j - i) ≡ j = omega (arith, le) in
      ap (λ k. take n (after_steps program s k).output) (sym same) ∙ ap (take n) more.1
      ∙ take-append-le n (after_steps program s i).output more.0 few

  same_front : (i j n : ℕ) → n ≤ length (after_steps program s i).output → n ≤ length (after_steps program s j).output →
      take n (after_steps program s i).output ≡ take n (after_steps program s j).output
  same_front i j n few less = elim (cases_lt i j) [
    | inl lt ↦ sym (later_front i j n (omega (arith, lt)) few)
    | inr ge ↦ later_front j i n ge less
  ]

  module _ (limit : ℕ) where
    -- so two states of a run have the same front
    fronts : (t u : State) (n : ℕ) → Reaches program s limit t → Reaches program s limit u → n ≤ length t.output →
        n ≤ length u.output → take n t.output ≡ take n u.output
    fronts t u n first second few less =
        let a = first.runs.leads in
        let b = second.runs.leads in
        ap (λ (x : State). take n x.output) a
        ∙ same_front first.steps second.steps n (subst (λ (x : State). n ≤ length x.output) a few)
        (subst (λ (x : State). n ≤ length x.output) b less)
        ∙ ap (λ (x : State). take n x.output) (sym b)

    -- nothing has left at first
    none_left : (written : List ℕ) → HasLeft program s limit written written 0
    none_left written = record {
      state = s;
      reaches = record { steps = 0; within = omega arith; runs = no_step IsPlain program s };
      within = omega arith;
      text = sym (append-nil written);
    }

    -- so many bytes more leave
    more_left : (written before after output : List ℕ) (shown more : ℕ) (u : State) →
        HasLeft program s limit written before shown → Reaches program s limit u → u.output ≡ output →
        shown ≤ length output → more ≤ length (drop shown output) → after ≡ before ++ take more (drop shown output) →
        HasLeft program s limit written after (shown + more)
    more_left written before after output shown more u left reaches is few less wrote =
        let long = length-drop shown output in
        let same = ap (λ o. length o) is in
        let front = fronts left.state u shown left.reaches reaches left.within (omega (arith, same, few)) ∙ ap (take shown) is in
        record {
          state = u;
          reaches = reaches;
          within = omega (arith, same, long, few, less);
          text = wrote ∙ ap (λ o. o ++ take more (drop shown output)) (left.text ∙ ap (λ o. written ++ o) front)
              ∙ append_assoc written (take shown output) (take more (drop shown output))
              ∙ ap (λ o. written ++ o) (sym (take-add shown more output)) ∙ ap (λ o. written ++ take (shown + more) o) (sym is);
        }

    -- or all that are left
    rest_left : (written before after output : List ℕ) (shown : ℕ) (u : State) →
        HasLeft program s limit written before shown → Reaches program s limit u → u.output ≡ output →
        shown ≤ length output → after ≡ before ++ drop shown output →
        HasLeft program s limit written after (length output)
    rest_left written before after output shown u left reaches is few wrote =
        let long = length-drop shown output in
        let all : shown + length (drop shown output) ≡ length output = omega (arith, long, few) in
        subst (HasLeft program s limit written after) all
        (more_left written before after output shown (length (drop shown output)) u left reaches is few (omega arith)
        (wrote ∙ ap (λ o. before ++ o) (sym (take-length (drop shown output)))))

    -- then all is written
    all_written : (written after output : List ℕ) (u : State) → HasLeft program s limit written after (length output) →
        Reaches program s limit u → u.output ≡ output → after ≡ written ++ output
    all_written written after output u left reaches is =
        let same = ap (λ o. length o) is in
        left.text
        ∙ ap (λ o. written ++ o) (fronts left.state u (length output) left.reaches reaches left.within (omega (arith, same))
        ∙ ap (take (length output)) is ∙ take-length output)

list_set : IsSet (List ℕ)
list_set = hlevel props

-- what is left of a text
rest_of : (shown : ℕ) (output : List ℕ) → take (length output - shown) (drop shown output) ≡ drop shown output
rest_of shown output =
    let long = length-drop shown output in
    take_all (length output - shown) (drop shown output) (omega (arith, long))

-- what a printer keeps
module _ (told tells : Bool) (program : Program) (s : State) (limit : ℕ) (written : List ℕ) where
  abbrev pub Kept : (after : List ℕ) → (shown : ℕ) → (broken : Bool) → Type 0
  Kept after shown broken = ∥ (told ≡ true → tells ≡ true → (n : ℕ) × (broken ≡ false → n ≡ shown)
      × HasLeft program s limit written after n) ∥₁

  pub kept_first : Kept written 0 false
  kept_first = ∣ (λ t t'. (0, λ is. refl, none_left program s limit written)) ∣₁

  module _ {output before : List ℕ} {shown : ℕ} {broken : Bool} (may : told ≡ true → MayLeave program s limit output)
      (whole : broken ≡ false) (kept : Kept before shown broken) where
    -- all is written that has left
    pub kept_all : shown ≡ length output → told ≡ true → tells ≡ true → before ≡ written ++ output
    kept_all is t t' = ∥∥₁_elim kept (list_set before (written ++ output)) (λ f.
        let x = f t t' in
        let u = may t in
        all_written program s limit written before output u.state
        (subst (HasLeft program s limit written before) (x.1 whole ∙ is) x.2) u.reaches u.output_is)

    module _ (few : shown ≤ length output) {after : List ℕ} where
      pub kept_more : (tells ≡ true → after ≡ before ++ take (length output - shown) (drop shown output)) →
          Kept after (length output) broken
      kept_more wrote = ∥∥₁_map kept (λ f t t'.
          let x = f t t' in
          let u = may t in (
            length output,
            λ is. refl,
            rest_left program s limit written before after output shown u.state
                (subst (HasLeft program s limit written before) (x.1 whole) x.2) u.reaches
                u.output_is few (wrote t' ∙ ap (λ o. before ++ o) (rest_of shown output)),
          ))

      -- a write failed
      pub kept_part : {later : ℕ} → (tells ≡ true → (n : ℕ) × (n ≤ length (take (length output - shown) (drop shown output)))
          × (after ≡ before ++ take n (take (length output - shown) (drop shown output)))) → Kept after later true
      kept_part wrote = ∥∥₁_map kept (λ f t t'.
          let x = f t t' in
          let u = may t in
          let part = subst (λ r. (n : ℕ) × (n ≤ length r) × (after ≡ before ++ take n r)) (rest_of shown output)
          (wrote t') in (
            shown + part.0,
            λ is. absurd (false≢true (sym is)),
            more_left program s limit written before after output shown part.0 u.state
                (subst (HasLeft program s limit written before) (x.1 whole) x.2) u.reaches
                u.output_is few part.1 part.2,
          ))
