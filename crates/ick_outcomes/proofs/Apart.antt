-- Proves that the rows of a summary have different outcomes.
use Rattle.std.proofs.Common.{◌≡◌, ◌⊎◌, inl, inr, Bool, map, List, [], ◌∷◌, ℕ, sym, ◌∙◌, subst}
use Rattle.std.specs.List.{Contains}
use Rattle.ick_code.specs.meaning.State.{State}
use Rattle.ick_outcomes.specs.Programs.{Program}
use Rattle.ick_explorer.specs.Order.{IsBelow, IsIncreasing}
use Rattle.ick_explorer.proofs.ListingLaws.{not_below_itself, below_one_way, contains-head, contains-tail}
use Rattle.ick_explorer.proofs.ListingLaws.{contains-cases, contains-key}
use Rattle.ick_outcomes.specs.Summaries.{Row, HasOutcome, IsRow, IsSummary}
use Rattle.ick_outcomes.specs.Accounts.{AreDistinct}
use Rattle.ick_outcomes.proofs.Ends.{first-has}

pub has-other : (p : Program) (s : State) (l : ℕ) (r x : Row) (c : List Bool) → r.output ≡ x.output → r.end ≡ x.end →
    HasOutcome p s l r c → HasOutcome p s l x c
has-other p s l r x c a b h =
    record { whole = h.whole; same_output = h.same_output ∙ a; same_end = h.same_end ∙ b }

not-later : (p : Program) (s : State) (l : ℕ) (r x : Row) → r.output ≡ x.output → r.end ≡ x.end → IsRow p s l r →
    IsRow p s l x → (x.first ≡ r.first) ⊎ IsBelow x.first r.first
not-later p s l r x a b h k =
    elim (contains-cases x.first r.first k.others
    (k.runs.complete r.first (has-other p s l r x r.first a b (first-has p s l r h)))) [
      | inl e ↦ inl e
      | inr n ↦ inr (k.runs.increasing.0 r.first n)
    ]

pub same-first : (p : Program) (s : State) (l : ℕ) (r x : Row) → r.output ≡ x.output → r.end ≡ x.end →
    IsRow p s l r → IsRow p s l x → r.first ≡ x.first
same-first p s l r x a b h k = elim (not-later p s l r x a b h k) [
  | inl e ↦ sym e
  | inr u ↦ elim (not-later p s l x r (sym a) (sym b) k h) [
    | inl e ↦ e
    | inr v ↦ absurd (below_one_way x.first r.first u v)
  ]
]

apart-by : (p : Program) (s : State) (l : ℕ) (rs : List Row) → IsIncreasing (map (λ r. r.first) rs) →
    ((r : Row) → Contains rs r → IsRow p s l r) → AreDistinct rs
apart-by p s l [] u f = tt
apart-by p s l (r ∷ rs) u f = (
  λ x m. λ a b.
      let e = same-first p s l r x a b (f r (contains-head r rs)) (f x (contains-tail r x rs m)) in
      not_below_itself r.first (subst (λ z. IsBelow r.first z) (sym e) (u.0 x.first (contains-key (λ r. r.first) rs x m))),
  apart-by p s l rs u.1 (λ x m. f x (contains-tail r x rs m)),
)

pub summary-distinct : (p : Program) (s : State) (l : ℕ) (rs : List Row) → IsSummary p s l rs → AreDistinct rs
summary-distinct p s l rs h = apart-by p s l rs h.increasing h.sound
