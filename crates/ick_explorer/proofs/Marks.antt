-- The marks of an explorer: one for each zero, and each asks a choice.
use Rattle.std.proofs.Common.{◌≡◌, ℕ, ◌+◌, ◌<◌, nat_lt, Bool, true, false, ◌&&◌, List, []}
use Rattle.std.proofs.Common.{◌∷◌, ◌++◌, length, refl, ap, sym, ◌∙◌, arith, length-append}
use Rattle.std.proofs.lemmas.Bool.Decides.{nat_tests}
use Rattle.std.proofs.lemmas.List.Folds.{list_all-append}
use Rattle.std.specs.List.{list_all}
use Rattle.ick_code.specs.meaning.Move.{Asking, plain, choice, ended, ask}
use Rattle.ick_backtrack.specs.Machine.{Machine}
use Rattle.ick_explorer.specs.Listings.{zeros_in}
use Rattle.ick_explorer.specs.Paths.{AllOnes, TurnsAt}
use Rattle.ick_explorer.specs.Marked.{is_choice, IsMarked}
use Rattle.ick_explorer.specs.Walks.{IsChoosing}

pub choice_of : (a : Asking) → is_choice a ≡ true → (k : ℕ) × (a ≡ choice k)
choice_of plain h = cc
choice_of (choice k) h = (k, refl)
choice_of (ended e) h = cc

zeros-append : (c d : List Bool) → zeros_in (c ++ d) ≡ zeros_in c + zeros_in d
zeros-append [] d = omega arith
zeros-append (true ∷ c) d = zeros-append c d
zeros-append (false ∷ c) d = let e = zeros-append c d in omega arith

pub zeros-ones : (c : List Bool) → AllOnes c → zeros_in c ≡ 0
zeros-ones [] a = refl
zeros-ones (true ∷ c) a = zeros-ones c a
zeros-ones (false ∷ c) a = absurd a

zeros-turns : (c pre : List Bool) → TurnsAt c pre → zeros_in c ≡ zeros_in pre + 1
zeros-turns c pre (ones, a, e) =
    let f : zeros_in c ≡ zeros_in pre + (zeros_in ones + 1) = ap zeros_in e ∙ zeros-append pre (false ∷ ones) in
    let g = zeros-ones ones a in omega arith

-- a test of all, with one more element
all_more : {A : Type 0} (p : A → Bool) (xs : List A) (x : A) → list_all p xs ≡ true → p x ≡ true →
    list_all p (xs ++ x ∷ []) ≡ true
all_more {A} p xs x h k =
    list_all-append p xs (x ∷ []) ∙ (ap (λ b. b && (p x && true)) h ∙ ap (λ b. b && true) k)

and_both : (a b : Bool) → (a && b) ≡ true → (a ≡ true) × (b ≡ true)
and_both true true h = (refl, refl)
and_both true false h = cc
and_both false b h = cc

all_last : {A : Type 0} (p : A → Bool) (xs : List A) (x : A) →
    list_all p (xs ++ x ∷ []) ≡ true → (list_all p xs ≡ true) × (p x ≡ true)
all_last {A} p xs x h =
    let r = and_both (list_all p xs) (p x && true) (sym (list_all-append p xs (x ∷ [])) ∙ h) in
    (r.0, (and_both (p x) true r.1).0)

-- by a step neither marks nor zeros change
pub marked_step : (l : ℕ) (m m' : Machine) (c : List Bool) (points : List ℕ) → m'.program ≡ m.program →
    m'.marks ≡ m.marks → IsMarked l m c points → IsMarked l m' c points
marked_step l m m' c points p e h = record {
  marked = ap length e ∙ h.marked;
  counted = h.counted;
  choosing =
      ap (λ q. list_all (λ s. is_choice (ask q s)) m'.marks) p
      ∙ (ap (list_all (λ s. is_choice (ask m.program s))) e ∙ h.choosing);
  below = h.below;
}

-- .. nor by a one
pub marked_one : (l : ℕ) (m : Machine) (c : List Bool) (points : List ℕ) → IsMarked l m c points →
    IsMarked l m (c ++ true ∷ []) points
marked_one l m c points h =
    let z = zeros-append c (true ∷ []) in record {
      marked = let e = h.marked in omega arith;
      counted = let e = h.counted in omega arith;
      choosing = h.choosing;
      below = h.below;
    }

-- a zero is marked
pub marked_zero : (l : ℕ) (m : Machine) (c : List Bool) (points : List ℕ) (n : ℕ) → IsChoosing m → n < l →
    IsMarked l m c points →
    IsMarked l (record m { marks = m.marks ++ m.state ∷ [] }) (c ++ false ∷ []) (points ++ n ∷ [])
marked_zero l m c points n a lt h =
    let z = zeros-append c (false ∷ []) in
    let test : nat_lt n l ≡ true = grind (arith, nat_tests) in record {
      marked = let e = h.marked in omega (arith, length-append m.marks (m.state ∷ []));
      counted = let e = h.counted in omega (arith, length-append points (n ∷ []));
      choosing = all_more (λ s. is_choice (ask m.program s)) m.marks m.state h.choosing a;
      below = all_more (λ k. nat_lt k l) points n h.below test;
    }

-- what the last mark shows, and what is left without it
pub record Unmarked (l : ℕ) (m : Machine) (pre : List Bool) (points : List ℕ) (n : ℕ) : Type 0 where
  pub choosing : IsChoosing m
  pub below : n < l
  pub rest : IsMarked l m pre points

pub unmarked : (l : ℕ) (m m₁ : Machine) (c pre : List Bool) (points points' : List ℕ) (n : ℕ) →
    m ≡ record m₁ { state = m.state; marks = m₁.marks ++ m₁.state ∷ [] } →
    points ≡ points' ++ n ∷ [] → TurnsAt c pre →
    IsMarked l m c points → Unmarked l m₁ pre points' n
unmarked l m m₁ c pre points points' n b e turn h =
    let z = zeros-turns c pre turn in
    let marks : m.marks ≡ m₁.marks ++ m₁.state ∷ [] = ap (λ x. x.marks) b in
    let states = all_last (λ s. is_choice (ask m₁.program s)) m₁.marks m₁.state
    (ap (λ x. list_all (λ s. is_choice (ask x.program s)) x.marks) (sym b) ∙ h.choosing) in
    let steps = all_last (λ k. nat_lt k l) points' n (ap (list_all (λ k. nat_lt k l)) (sym e) ∙ h.below) in
    let test : nat_lt n l ≡ true = steps.1 in record {
      choosing = states.1;
      below = grind (arith, nat_tests);
      rest = record {
        marked = let x = h.marked in let y = ap length marks in
            omega (arith, length-append m₁.marks (m₁.state ∷ []));
        counted = let x = h.counted in let y = ap length e in omega (arith, length-append points' (n ∷ []));
        choosing = states.0;
        below = steps.0;
      };
    }
