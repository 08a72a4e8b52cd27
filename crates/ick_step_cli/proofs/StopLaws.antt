-- Steps that lead to the first state of a kind stop at one place.
use Rattle.std.proofs.Common.{◌≡◌, ◌∙◌, ◌+◌, ◌<◌, ◌≤◌, ◌⊎◌, ◌++◌, ◌∷◌, inl, inr, ℕ, zero, suc, Bool, List, [], Option}
use Rattle.std.proofs.Common.{Some, None, add-one, ap, ap₂, arith, false, length, refl, subst, sym, take, true}
use Rattle.std.proofs.lemmas.Bool.{cases_lt, cases_order}
use Rattle.std.proofs.lemmas.List.{take-take, take_all, take_more}
use Rattle.ick_code.specs.meaning.Move.{ask}
use Rattle.ick_code.specs.meaning.State.{State}
use Rattle.ick_backtrack.specs.Machine.{Program}
use Rattle.ick_runs.specs.Chosen.{Chosen}
use Rattle.ick_step.specs.History.{after, choices_in}
use Rattle.ick_step.specs.Seen.{Seen, present}
use Rattle.ick_session.specs.Travel.{StopsFirst, answer_to, next_answer}
use Rattle.ick_step_cli.specs.Laws.{SameSeen}

-- the answer of a step behind these answers
abbrev pub next_by : Chosen → Program → State → List (Option Bool) → Option (Option Bool)
next_by chosen p s xs = answer_to chosen (length (choices_in xs)) (ask p (after p s xs))

some_same : {A : Type 0} (x y : A) → Some x ≡ Some y → x ≡ y
some_same x y e = cc

-- .. from one state of a session, whatever its count of work
module _ (chosen : Chosen) (here : State → Bool) (most : ℕ) (s : Seen) (w : ℕ) where
  next_same : (t u : Seen) (xs ys : List (Option Bool)) → StopsFirst chosen here most s t →
      StopsFirst chosen here most (record s { work = w }) u → xs ≡ ys →
      next_by chosen t.program t.start xs ≡ next_by chosen u.program u.start ys
  next_same t u xs ys h g e =
      let on = h.on in
      let other = g.on in
      ap (λ p. next_by chosen p t.start xs) (on.program ∙ sym other.program)
      ∙ (ap (λ x. next_by chosen u.program x xs) (on.start ∙ sym other.start)
      ∙ ap (λ l. next_by chosen u.program u.start l) e)

  first_same : (t u : Seen) → StopsFirst chosen here most s t → StopsFirst chosen here most (record s { work = w }) u →
      (k : ℕ) → k ≤ length s.answers → take k t.answers ≡ take k u.answers
  first_same t u h g k le =
      let on = h.on in
      let other = g.on in
      sym (take-take k (length s.answers) t.answers le)
      ∙ (ap (take k) (on.answers ∙ sym other.answers) ∙ take-take k (length s.answers) u.answers le)

  same_take : (t u : Seen) → StopsFirst chosen here most s t → StopsFirst chosen here most (record s { work = w }) u →
      (k : ℕ) → k ≤ length t.answers → k ≤ length u.answers → take k t.answers ≡ take k u.answers
  same_take t u h g zero le le' = refl
  same_take t u h g (suc k) le le' = elim (cases_lt k (length s.answers)) [
    | inl early ↦ first_same t u h g (suc k) (omega arith)
    | inr late ↦
        let front = same_take t u h g k (omega arith) (omega arith) in
        let given = h.given in
        let other = g.given in
        let same = some_same _ _ (sym (given.each k late (omega arith))
        ∙ (next_same t u (take k t.answers) (take k u.answers) h g front ∙ other.each k late (omega arith))) in
        subst (λ n. take n t.answers ≡ take n u.answers) (add-one k)
        (take_more t.answers k None (omega arith)
        ∙ (ap₂ (λ l a. l ++ a ∷ []) front same ∙ sym (take_more u.answers k None (omega arith))))
  ]

  -- all answers of the shorter one
  all_same : (t u : Seen) → StopsFirst chosen here most s t → StopsFirst chosen here most (record s { work = w }) u →
      length t.answers ≤ length u.answers → t.answers ≡ take (length t.answers) u.answers
  all_same t u h g le =
      sym (take_all (length t.answers) t.answers (omega arith))
      ∙ same_take t u h g (length t.answers) (omega arith) le

  there : (t u : Seen) → StopsFirst chosen here most s t → StopsFirst chosen here most (record s { work = w }) u →
      length t.answers ≤ length u.answers →
      present t ≡ after u.program u.start (take (length t.answers) u.answers)
  there t u h g le =
      let on = h.on in
      let other = g.on in
      ap (λ p. after p t.start t.answers) (on.program ∙ sym other.program)
      ∙ (ap (λ x. after u.program x t.answers) (on.start ∙ sym other.start)
      ∙ ap (λ l. after u.program u.start l) (all_same t u h g le))

  not_longer : (t u : Seen) → StopsFirst chosen here most s t → StopsFirst chosen here most (record s { work = w }) u →
      length t.answers < length u.answers → ⊥
  not_longer t u h g lt = by h.stops where
    by : (length t.answers ≡ length s.answers + most)
        ⊎ ((next_answer chosen t ≡ None) ⊎ ((length s.answers < length t.answers) × (here (present t) ≡ true))) → ⊥
    by (inl over) = let on = g.on in let within = on.within in omega arith
    by (inr (inl stuck)) =
        let on = h.on in
        let further = on.further in
        let other = g.given in
        let made = other.each (length t.answers) (omega arith) (omega arith) in
        let none = sym stuck
        ∙ (next_same t u t.answers (take (length t.answers) u.answers) h g (all_same t u h g (omega arith)) ∙ made) in
        absurd (cc)
    by (inr (inr come)) =
        let passed = g.before in
        let no = passed.before (length t.answers) come.0 lt in
        let yes : true ≡ false = sym come.1 ∙ (ap here (there t u h g (omega arith)) ∙ no) in
        absurd (cc)

-- .. and back
module _ (chosen : Chosen) (here : State → Bool) (most : ℕ) (s : Seen) (w : ℕ) where
  not_shorter : (t u : Seen) → StopsFirst chosen here most s t → StopsFirst chosen here most (record s { work = w }) u →
      length u.answers < length t.answers → ⊥
  not_shorter t u h g lt = not_longer chosen here most (record s { work = w }) s.work u t g h lt

  same_answers : (t u : Seen) → StopsFirst chosen here most s t →
      StopsFirst chosen here most (record s { work = w }) u →
      u.answers ≡ t.answers
  same_answers t u h g = by (cases_order (length t.answers) (length u.answers)) where
    by : (length t.answers ≡ length u.answers) ⊎ ((length t.answers < length u.answers)
        ⊎ (length u.answers < length t.answers)) → u.answers ≡ t.answers
    by (inl same) =
        sym (take_all (length t.answers) u.answers (omega arith))
        ∙ sym (all_same chosen here most s w t u h g (omega arith))
    by (inr (inl less)) = absurd (not_longer chosen here most s w t u h g less)
    by (inr (inr more)) = absurd (not_shorter t u h g more)

  pub stops_same : (t u : Seen) → StopsFirst chosen here most s t →
      StopsFirst chosen here most (record s { work = w }) u →
      SameSeen t u
  stops_same t u h g =
      let on = h.on in
      let other = g.on in record {
        program = other.program ∙ sym on.program;
        start = other.start ∙ sym on.start;
        answers = same_answers t u h g;
      }

-- what depends on no count of work
pub seen_same : {A : Type 0} (of : Program → State → List (Option Bool) → A) (t u : Seen) → SameSeen t u →
    of u.program u.start u.answers ≡ of t.program t.start t.answers
seen_same of t u same =
    ap (λ p. of p u.start u.answers) same.program
    ∙ (ap (λ s. of t.program s u.answers) same.start ∙ ap (λ xs. of t.program t.start xs) same.answers)
