-- How the stretches of a list change with its last choice.
use Rattle.std.proofs.Common.{◌≡◌, ◌⊎◌, inl, inr, ℕ, ◌+◌, ◌-◌, ◌<◌, ◌≤◌, Bool, true, false, if◌then◌else◌}
use Rattle.std.proofs.Common.{List, [], ◌∷◌, ◌++◌, length, take, set, get_or, refl, ap, sym, ◌∙◌, subst, arith}
use Rattle.std.specs.Prelude.{Option, Some, None, replicate}
use Rattle.std.proofs.lemmas.List.{length-append, length-replicate, length-set, map-append, take_all, take_more}
use Rattle.std.proofs.lemmas.List.{take_more_set, same_from_push}
use Rattle.ick_explorer.specs.declared.stretches.Stretch.{Stretch as KeptStretch}
use Rattle.ick_explorer.specs.ChoiceTexts.{Stretch, is_same, with_choice, stretches}
use Rattle.ick_explorer.specs.Choices.{seen_stretch, seen_stretches}
use Rattle.ick_explorer.proofs.GroupLaws.{IsStretched, choices_in, choices_all, stretched, same_true, other_false}
use Rattle.ick_explorer.proofs.GroupLaws.{same_or_other}

-- the stretches that are seen with one more kept
pub seen_push : (kept : List KeptStretch) (s : KeptStretch) →
    seen_stretches (kept ++ s ∷ []) ≡ seen_stretches kept ++ seen_stretch s ∷ []
seen_push kept s = map-append seen_stretch kept (s ∷ [])

-- the stretches before the last, and the last
pub seen_last : (kept : List KeptStretch) (n : ℕ) (s : KeptStretch) → n + 1 ≡ length kept → s ≡ get_or kept n s →
    seen_stretches kept ≡ seen_stretches (take n kept) ++ seen_stretch s ∷ []
seen_last kept n s e is =
    ap seen_stretches (sym (take_all (n + 1) kept (omega (arith, e)))
    ∙ (take_more kept n s (omega (arith, e)) ∙ ap (λ x. take n kept ++ x ∷ []) (sym is)))
    ∙ seen_push (take n kept) s

pub seen_set : (kept : List KeptStretch) (n : ℕ) (s : KeptStretch) → n + 1 ≡ length kept →
    seen_stretches (set kept n s) ≡ seen_stretches (take n kept) ++ seen_stretch s ∷ []
seen_set kept n s e =
    let size = length-set kept n s in
    ap seen_stretches (sym (take_all (n + 1) (set kept n s) (omega (arith, e, size)))
    ∙ take_more_set kept n s (omega (arith, e)))
    ∙ seen_push (take n kept) s

abbrev pub one_of : Bool → Stretch
one_of b = record { choice = b; size = 1 }

-- the stretches with one more choice behind them
abbrev pub lengthened : List Stretch → Bool → List Stretch
lengthened [] b = one_of b ∷ []
lengthened (s ∷ []) b =
    if is_same s.choice b then record { choice = b; size = s.size + 1 } ∷ [] else s ∷ one_of b ∷ []
lengthened (s ∷ t ∷ ss) b = s ∷ lengthened (t ∷ ss) b

-- a choice before and a choice behind come in either order
around_none : (a b : Bool) → with_choice a (one_of b ∷ []) ≡ lengthened (one_of a ∷ []) b
around_none true true = refl
around_none true false = refl
around_none false true = refl
around_none false false = refl

around_one : (a x b : Bool) (n : ℕ) → with_choice a (lengthened (record { choice = x; size = n } ∷ []) b)
    ≡ lengthened (with_choice a (record { choice = x; size = n } ∷ [])) b
around_one true true true n = refl
around_one true true false n = refl
around_one true false true n = refl
around_one true false false n = refl
around_one false true true n = refl
around_one false true false n = refl
around_one false false true n = refl
around_one false false false n = refl

around_more : (a x b : Bool) (n : ℕ) (t : Stretch) (ss : List Stretch) →
    with_choice a (record { choice = x; size = n } ∷ lengthened (t ∷ ss) b)
    ≡ lengthened (with_choice a (record { choice = x; size = n } ∷ t ∷ ss)) b
around_more true true b n t ss = refl
around_more true false b n t ss = refl
around_more false true b n t ss = refl
around_more false false b n t ss = refl

around : (a b : Bool) (ss : List Stretch) → with_choice a (lengthened ss b) ≡ lengthened (with_choice a ss) b
around a b [] = around_none a b
around a b (s ∷ []) = around_one a s.choice b s.size
around a b (s ∷ t ∷ ss) = around_more a s.choice b s.size t ss

one_longer : (c : List Bool) (b : Bool) → stretches (c ++ b ∷ []) ≡ lengthened (stretches c) b
one_longer [] b = refl
one_longer (a ∷ c) b = ap (with_choice a) (one_longer c b) ∙ around a b (stretches c)

-- the last stretch grows by an equal choice ..
grown : (front : List Stretch) (s : Stretch) (b : Bool) → s.choice ≡ b →
    lengthened (front ++ s ∷ []) b ≡ front ++ record { choice = b; size = s.size + 1 } ∷ []
grown [] s b e =
    ap (λ u. if u then record { choice = b; size = s.size + 1 } ∷ [] else s ∷ one_of b ∷ [])
    (subst (λ x. is_same s.choice x ≡ true) e (same_true s.choice))
grown (x ∷ []) s b e = ap (λ r. x ∷ r) (grown [] s b e)
grown (x ∷ y ∷ front) s b e = ap (λ r. x ∷ r) (grown (y ∷ front) s b e)

-- .. and another choice begins a stretch
begun : (front : List Stretch) (s : Stretch) (b : Bool) → (s.choice ≡ b → ⊥) →
    lengthened (front ++ s ∷ []) b ≡ (front ++ s ∷ []) ++ one_of b ∷ []
begun [] s b f =
    ap (λ u. if u then record { choice = b; size = s.size + 1 } ∷ [] else s ∷ one_of b ∷ [])
    (other_false s.choice b f)
begun (x ∷ []) s b f = ap (λ r. x ∷ r) (begun [] s b f)
begun (x ∷ y ∷ front) s b f = ap (λ r. x ∷ r) (begun (y ∷ front) s b f)

-- no stretch is longer than the list
size_in : (front : List Stretch) (s : Stretch) → s.size ≤ length (choices_in (front ++ s ∷ []))
size_in [] s =
    let n = length-append (replicate s.size s.choice) [] in
    let k = length-replicate s.size s.choice in
    omega (arith, n, k)
size_in (x ∷ front) s =
    let r = size_in front s in
    let n = length-append (replicate x.size x.choice) (choices_in (front ++ s ∷ [])) in
    omega (arith, r, n)

pub last_size : (c : List Bool) (front : List Stretch) (s : Stretch) → stretches c ≡ front ++ s ∷ [] →
    s.size ≤ length c
last_size c front s e =
    let same : choices_in (front ++ s ∷ []) ≡ c = ap choices_in (sym e) ∙ choices_all c in
    let n : length (choices_in (front ++ s ∷ [])) ≡ length c = ap length same in
    let k = size_in front s in
    omega (arith, n, k)

-- the stretches of one more choice of a list
more_at : (c : List Bool) (at : ℕ) (kept : List Stretch) → at < length c → kept ≡ stretches (take at c) →
    stretches (take (at + 1) c) ≡ lengthened kept (get_or c at false)
more_at c at kept lt e =
    ap stretches (take_more c at false lt)
    ∙ (one_longer (take at c) (get_or c at false) ∙ ap (λ ss. lengthened ss (get_or c at false)) (sym e))

pub first_of_all : (c : List Bool) (at : ℕ) (kept : List Stretch) → at < length c → kept ≡ stretches (take at c) →
    kept ≡ [] → one_of (get_or c at false) ∷ [] ≡ stretches (take (at + 1) c)
first_of_all c at kept lt e none =
    sym (more_at c at kept lt e ∙ ap (λ ss. lengthened ss (get_or c at false)) none)

pub grown_at : (c : List Bool) (at : ℕ) (kept front : List Stretch) (s : Stretch) → at < length c →
    kept ≡ stretches (take at c) → kept ≡ front ++ s ∷ [] → s.choice ≡ get_or c at false →
    front ++ record { choice = get_or c at false; size = s.size + 1 } ∷ [] ≡ stretches (take (at + 1) c)
grown_at c at kept front s lt e f same =
    sym (more_at c at kept lt e
    ∙ (ap (λ ss. lengthened ss (get_or c at false)) f ∙ grown front s (get_or c at false) same))

pub begun_at : (c : List Bool) (at : ℕ) (kept front : List Stretch) (s : Stretch) → at < length c →
    kept ≡ stretches (take at c) → kept ≡ front ++ s ∷ [] → (s.choice ≡ get_or c at false → ⊥) →
    (front ++ s ∷ []) ++ one_of (get_or c at false) ∷ [] ≡ stretches (take (at + 1) c)
begun_at c at kept front s lt e f other =
    sym (more_at c at kept lt e
    ∙ (ap (λ ss. lengthened ss (get_or c at false)) f ∙ begun front s (get_or c at false) other))

-- a list of stretches is empty or has a last one
record HasLast (ss : List Stretch) : Type 0 where
  front : List Stretch
  last : Stretch
  is : ss ≡ front ++ last ∷ []

last_or_none : (ss : List Stretch) → (ss ≡ []) ⊎ HasLast ss
last_or_none [] = inl refl
last_or_none (x ∷ ss) = inr (behind (last_or_none ss))
  where
    behind : (ss ≡ []) ⊎ HasLast ss → HasLast (x ∷ ss)
    behind (inl e) = record { front = []; last = x; is = ap (λ r. x ∷ r) e }
    behind (inr h) = record { front = x ∷ h.front; last = h.last; is = ap (λ r. x ∷ r) h.is }

all_some : (last : Option Bool) (front : List Stretch) (s : Stretch) → IsStretched last (front ++ s ∷ []) →
    0 < s.size
all_some last [] s h = h.1
all_some last (x ∷ front) s h = all_some (Some x.choice) front s h.2

-- what is left without the last choice
pub record Shortened (c : List Bool) (front : List Stretch) (s : Stretch) : Type 0 where
  pub more : 1 < s.size → front ++ record { choice = s.choice; size = s.size - 1 } ∷ [] ≡ stretches c
  pub one : s.size ≤ 1 → front ≡ stretches c

abbrev IsShortened : List Stretch → List Stretch → Stretch → Type 0
IsShortened ss front s =
    (1 < s.size → front ++ record { choice = s.choice; size = s.size - 1 } ∷ [] ≡ ss) × (s.size ≤ 1 → front ≡ ss)

by_one : (b : Bool) (front : List Stretch) (s : Stretch) → lengthened [] b ≡ front ++ s ∷ [] →
    IsShortened [] front s
by_one b front s e =
    let p = same_from_push [] front (one_of b) s e in
    let n : 1 ≡ s.size = ap (λ x. x.size) p.1 in
    (λ lt. absurd (omega (arith, n, lt)), λ le. sym p.0)

by_grown : (before : List Stretch) (t : Stretch) (b : Bool) (front : List Stretch) (s : Stretch) → t.choice ≡ b →
    0 < t.size → lengthened (before ++ t ∷ []) b ≡ front ++ s ∷ [] → IsShortened (before ++ t ∷ []) front s
by_grown before t b front s same some e =
    let p = same_from_push before front (record { choice = b; size = t.size + 1 }) s
    (sym (grown before t b same) ∙ e) in
    let n : t.size + 1 ≡ s.size = ap (λ x. x.size) p.1 in
    let k : s.size - 1 ≡ t.size = omega (arith, n) in
    let d : s.choice ≡ t.choice = sym (ap (λ x. x.choice) p.1) ∙ sym same in (
      λ lt. ap (λ x. x ++ record { choice = s.choice; size = s.size - 1 } ∷ []) (sym p.0)
          ∙ (ap (λ x. before ++ record { choice = x; size = s.size - 1 } ∷ []) d
          ∙ ap (λ x. before ++ record { choice = t.choice; size = x } ∷ []) k),
      λ le. absurd (omega (arith, n, some, le)),
    )

by_begun : (before : List Stretch) (t : Stretch) (b : Bool) (front : List Stretch) (s : Stretch) →
    (t.choice ≡ b → ⊥) → lengthened (before ++ t ∷ []) b ≡ front ++ s ∷ [] →
    IsShortened (before ++ t ∷ []) front s
by_begun before t b front s other e =
    let p = same_from_push (before ++ t ∷ []) front (one_of b) s (sym (begun before t b other) ∙ e) in
    let n : 1 ≡ s.size = ap (λ x. x.size) p.1 in
    (λ lt. absurd (omega (arith, n, lt)), λ le. sym p.0)

by_last : (ss : List Stretch) (b : Bool) (front : List Stretch) (s : Stretch) → (ss ≡ []) ⊎ HasLast ss →
    IsStretched None ss → lengthened ss b ≡ front ++ s ∷ [] → IsShortened ss front s
by_last ss b front s (inl none) h e =
    subst (λ x. IsShortened x front s) (sym none)
    (by_one b front s (ap (λ x. lengthened x b) (sym none) ∙ e))
by_last ss b front s (inr l) h e =
    let f : lengthened (l.front ++ l.last ∷ []) b ≡ front ++ s ∷ [] = ap (λ x. lengthened x b) (sym l.is) ∙ e in
    let some = all_some None l.front l.last (subst (IsStretched None) l.is h) in
    subst (λ x. IsShortened x front s) (sym l.is) (elim (same_or_other l.last.choice b) [
      | inl same ↦ by_grown l.front l.last b front s same some f
      | inr other ↦ by_begun l.front l.last b front s other f
    ])

pub shortened : (c : List Bool) (b : Bool) (front : List Stretch) (s : Stretch) →
    front ++ s ∷ [] ≡ stretches (c ++ b ∷ []) → Shortened c front s
shortened c b front s e =
    let r = by_last (stretches c) b front s (last_or_none (stretches c)) (stretched c)
    (sym (one_longer c b) ∙ sym e) in
    record { more = r.0; one = r.1 }

some_by : (s : Stretch) (b t : Bool) →
    0 < length (if t then record { choice = b; size = s.size + 1 } ∷ [] else s ∷ one_of b ∷ [])
some_by s b true = omega arith
some_by s b false = omega arith

some_lengthened : (ss : List Stretch) (b : Bool) → 0 < length (lengthened ss b)
some_lengthened [] b = omega arith
some_lengthened (s ∷ []) b = some_by s b (is_same s.choice b)
some_lengthened (s ∷ t ∷ ss) b = omega arith

pub some_stretch : (c : List Bool) (b : Bool) → 0 < length (stretches (c ++ b ∷ []))
some_stretch c b = subst (λ ss. 0 < length ss) (sym (one_longer c b)) (some_lengthened (stretches c) b)
