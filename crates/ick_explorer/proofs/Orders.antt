-- Laws of the order, and of the zeros of a list of choices.
use Rattle.std.proofs.Common.{◌≡◌, ℕ, ◌⊎◌, inl, inr, Bool, true, false, List, [], ◌∷◌, ◌++◌}
use Rattle.std.proofs.Common.{map, refl, ap, sym, ◌∙◌, subst}
use Rattle.std.proofs.lemmas.List.{append-nil, map-append}
use Rattle.std.specs.Prelude.{Some, None}
use Rattle.ick_backtrack.specs.Machine.{Program}
use Rattle.ick_code.specs.meaning.State.{State}
use Rattle.ick_explorer.specs.Runs.{IsWhole}
use Rattle.ick_explorer.specs.Order.{IsBelow}
use Rattle.ick_explorer.specs.Listings.{IsLeastAfter, IsLast, common, before_zeros}
use Rattle.ick_explorer.specs.Paths.{AllOnes, AllZeros, TurnsAt}
use Rattle.ick_explorer.proofs.RunLaws.{compared}

pub none_above_ones : (c e : List Bool) → AllOnes c → IsBelow c e → ⊥
none_above_ones [] e a b = b
none_above_ones (true ∷ c) [] a b = b
none_above_ones (true ∷ c) (true ∷ e) a b = none_above_ones c e a b
none_above_ones (true ∷ c) (false ∷ e) a b = b
none_above_ones (false ∷ c) e a b = absurd a

pub none_below_zeros : (e d : List Bool) → AllZeros d → IsBelow e d → ⊥
none_below_zeros [] d a b = b
none_below_zeros (x ∷ e) [] a b = b
none_below_zeros (false ∷ e) (false ∷ d) a b = none_below_zeros e d a b
none_below_zeros (true ∷ e) (false ∷ d) a b = b
none_below_zeros (x ∷ e) (true ∷ d) a b = absurd a

-- nothing lies between a list and the least one after its last zero is turned
pub none_between : (pre ones zeros e : List Bool) → AllOnes ones → AllZeros zeros →
    IsBelow (pre ++ false ∷ ones) e → IsBelow e (pre ++ true ∷ zeros) → ⊥
none_between [] ones zeros [] a z u v = v
none_between [] ones zeros (false ∷ e) a z u v = none_above_ones ones e a u
none_between [] ones zeros (true ∷ e) a z u v = none_below_zeros e zeros z v
none_between (x ∷ pre) ones zeros [] a z u v = v
none_between (false ∷ pre) ones zeros (false ∷ e) a z u v = none_between pre ones zeros e a z u v
none_between (true ∷ pre) ones zeros (true ∷ e) a z u v = none_between pre ones zeros e a z u v
none_between (false ∷ pre) ones zeros (true ∷ e) a z u v = v
none_between (true ∷ pre) ones zeros (false ∷ e) a z u v = u

pub turned_below : (pre c d : List Bool) → IsBelow (pre ++ false ∷ c) (pre ++ true ∷ d)
turned_below [] c d = tt
turned_below (false ∷ pre) c d = turned_below pre c d
turned_below (true ∷ pre) c d = turned_below pre c d

pub common-turned : (pre c d : List Bool) → common (pre ++ false ∷ c) (pre ++ true ∷ d) ≡ pre
common-turned [] c d = refl
common-turned (false ∷ pre) c d = ap (λ r. false ∷ r) (common-turned pre c d)
common-turned (true ∷ pre) c d = ap (λ r. true ∷ r) (common-turned pre c d)

map-id : (xs : List (List Bool)) → map (λ r. r) xs ≡ xs
map-id [] = refl
map-id (x ∷ xs) = ap (λ r. x ∷ r) (map-id xs)

map-map : (f g : List Bool → List Bool) (xs : List (List Bool)) → map f (map g xs) ≡ map (λ x. f (g x)) xs
map-map f g [] = refl
map-map f g (x ∷ xs) = ap (λ r. f (g x) ∷ r) (map-map f g xs)

before_zeros-under : (b : Bool) (c d : List Bool) →
    before_zeros (c ++ d) ≡ before_zeros c ++ map (λ r. c ++ r) (before_zeros d) →
    map (λ r. b ∷ r) (before_zeros (c ++ d))
    ≡ map (λ r. b ∷ r) (before_zeros c) ++ map (λ r. (b ∷ c) ++ r) (before_zeros d)
before_zeros-under b c d e =
    ap (map (λ r. b ∷ r)) e ∙ (map-append (λ r. b ∷ r) (before_zeros c) (map (λ r. c ++ r) (before_zeros d))
    ∙ ap (λ xs. map (λ r. b ∷ r) (before_zeros c) ++ xs)
    (map-map (λ r. b ∷ r) (λ r. c ++ r) (before_zeros d)))

pub before_zeros-append : (c d : List Bool) →
    before_zeros (c ++ d) ≡ before_zeros c ++ map (λ r. c ++ r) (before_zeros d)
before_zeros-append [] d = sym (map-id (before_zeros d))
before_zeros-append (false ∷ c) d = ap (λ r. [] ∷ r) (before_zeros-under false c d (before_zeros-append c d))
before_zeros-append (true ∷ c) d = before_zeros-under true c d (before_zeros-append c d)

pub before_zeros-ones : (c : List Bool) → AllOnes c → before_zeros c ≡ []
before_zeros-ones [] a = refl
before_zeros-ones (true ∷ c) a = ap (map (λ r. true ∷ r)) (before_zeros-ones c a)
before_zeros-ones (false ∷ c) a = absurd a

pub before_zeros-zero : (c : List Bool) → before_zeros (c ++ false ∷ []) ≡ before_zeros c ++ c ∷ []
before_zeros-zero c = before_zeros-append c (false ∷ []) ∙ ap (λ x. before_zeros c ++ x ∷ []) (append-nil c)

pub before_zeros-one : (c : List Bool) → before_zeros (c ++ true ∷ []) ≡ before_zeros c
before_zeros-one c = before_zeros-append c (true ∷ []) ∙ append-nil (before_zeros c)

pub before_zeros-turns : (c pre : List Bool) → TurnsAt c pre → before_zeros c ≡ before_zeros pre ++ pre ∷ []
before_zeros-turns c pre (ones, a, e) =
    ap before_zeros e ∙ (before_zeros-append pre (false ∷ ones)
    ∙ ap (λ xs. before_zeros pre ++ xs)
    (ap (λ xs. (pre ++ []) ∷ map (λ r. pre ++ r) (map (λ r. false ∷ r) xs)) (before_zeros-ones ones a)
    ∙ ap (λ x. x ∷ []) (append-nil pre)))

orders_least : (p : Program) (s : State) (l : ℕ) (d e : List Bool) → IsWhole p s l d →
    IsWhole p s l e → (IsBelow e d → ⊥) → (e ≡ d) ⊎ IsBelow d e
orders_least p s l d e u v f =
    elim (compared p s l e d v u) [ inl x ↦ inl x | inr y ↦ elim y [ inl x ↦ absurd (f x) | inr x ↦ inr x ] ]

-- the least list after one whose last zero stands after pre
pub least-turned : (p : Program) (s : State) (l : ℕ) (c pre zeros : List Bool) → TurnsAt c pre →
    AllZeros zeros → IsWhole p s l (pre ++ true ∷ zeros) → IsLeastAfter p s l (Some c) (pre ++ true ∷ zeros)
least-turned p s l c pre zeros (ones, a, f) z w = record {
  whole = w;
  after = subst (λ x. IsBelow x (pre ++ true ∷ zeros)) (sym f) (turned_below pre ones zeros);
  least = λ e v u. orders_least p s l _ e w v (none_between pre ones zeros e a z (subst (λ x. IsBelow x e) f u));
}

-- the least list of all
pub least-first : (p : Program) (s : State) (l : ℕ) (zeros : List Bool) → AllZeros zeros → IsWhole p s l zeros →
    IsLeastAfter p s l None zeros
least-first p s l zeros z w = record {
  whole = w;
  after = tt;
  least = λ e v u. orders_least p s l _ e w v (none_below_zeros e zeros z);
}

pub last-ones : (p : Program) (s : State) (l : ℕ) (c : List Bool) → AllOnes c → IsLast p s l (Some c)
last-ones p s l c a = λ e w u. none_above_ones c e a u
