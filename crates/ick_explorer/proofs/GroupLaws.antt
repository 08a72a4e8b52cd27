-- Laws of texts of groups.
use Rattle.std.proofs.Common.{◌≡◌, ◌≢◌, ◌⊎◌, inl, inr, ℕ, zero, suc, ◌+◌, ◌^◌, ◌<◌}
use Rattle.std.proofs.Common.{Bool, true, false, if◌then◌else◌, List, [], ◌∷◌, ◌++◌, map, length, take}
use Rattle.std.proofs.Common.{drop, get_or, refl, ap, sym, ◌∙◌, subst, arith}
use Rattle.std.specs.Prelude.{Option, Some, None, nat_lt}
use Rattle.std.proofs.lemmas.Bool.Decides.{nat_tests}
use Rattle.ick_explorer.proofs.TextLaws.{digit_one, plain_one}
use Rattle.ick_explorer.specs.Printing.{StartsOther}
use Rattle.std.specs.Char.{digit_value}
use Rattle.std.specs.Prelude.{replicate}
use Rattle.std.specs.Str.Parse.{AllDigits, digits_value}
use Rattle.std.proofs.lemmas.List.{length-append, length-replicate, take-append-drop}
use Rattle.std.proofs.lemmas.Fmt.{decimal_is_IsNumeral, first_decimal}
use Rattle.ick_explorer.specs.ChoiceTexts.{digit_of, plain_text, Group, IsLength, group_text, later_text, groups_text}
use Rattle.ick_explorer.specs.ChoiceTexts.{Differs, AreGroups, stretch_of, spread, IsGrouped, is_same, with_choice}
use Rattle.ick_explorer.specs.ChoiceTexts.{Stretch, stretches, group_of, grouped_text, choices_text, IsTextOf}
use Rattle.ick_explorer.specs.Readings.{HasNoDigit}

comma_no_digit : HasNoDigit (44 ∷ [])
comma_no_digit h = let x : digit_value 44 ≡ 36 = refl in absurd (omega (arith, x, h))

pub later_no_digit : (gs : List Group) → HasNoDigit (later_text gs)
later_no_digit [] = tt
later_no_digit (g ∷ gs) = comma_no_digit

-- digits end where the first byte stands that is none
pub digits_one : (ds es s t : List ℕ) → AllDigits 10 ds → AllDigits 10 es → HasNoDigit s → HasNoDigit t →
    ds ++ s ≡ es ++ t → (ds ≡ es) × (s ≡ t)
digits_one [] [] s t a b h k e = (refl, e)
digits_one [] (y ∷ es) [] t a b h k e = cc
digits_one [] (y ∷ es) (x ∷ s) t a b h k e =
    let same : x ≡ y = ap (λ l. get_or l 0 0) e in
    absurd (h (subst (λ z. digit_value z < 10) (sym same) b.0))
digits_one (x ∷ ds) [] s [] a b h k e = cc
digits_one (x ∷ ds) [] s (y ∷ t) a b h k e =
    let same : x ≡ y = ap (λ l. get_or l 0 0) e in
    absurd (k (subst (λ z. digit_value z < 10) same a.0))
digits_one (x ∷ ds) (y ∷ es) s t a b h k e =
    let same : x ≡ y = ap (λ l. get_or l 0 0) e in
    let rest : ds ++ s ≡ es ++ t = ap (drop 1) e in
    let r = digits_one ds es s t a.1 b.1 h k rest in
    (ap (λ z. z ∷ ds) same ∙ ap (λ zs. y ∷ zs) r.0, r.1)

-- a text has one group at its front
pub front_one : (g h : Group) (s t : List ℕ) → IsLength g.digits → IsLength h.digits → HasNoDigit s →
    HasNoDigit t → group_text g ++ s ≡ group_text h ++ t →
    (g.choice ≡ h.choice) × (g.digits ≡ h.digits) × (s ≡ t)
front_one g h s t lg lh a b e =
    let first : digit_of g.choice ≡ digit_of h.choice = ap (λ l. get_or l 0 0) e in
    let rest : g.digits ++ s ≡ h.digits ++ t = ap (drop 2) e in
    let r = digits_one g.digits h.digits s t lg.0.1 lh.0.1 a b rest in
    (digit_one g.choice h.choice first, r.0, r.1)

pub same_stretch : (g h : Group) → g.choice ≡ h.choice → g.digits ≡ h.digits → stretch_of g ≡ stretch_of h
same_stretch g h e f =
    ap (λ ds. replicate (digits_value 10 ds) g.choice) f ∙ ap (λ b. replicate (digits_value 10 h.digits) b) e

-- .. and so one reading in groups
later_one : (last last' : Option Bool) (gs hs : List Group) → AreGroups last gs → AreGroups last' hs →
    later_text gs ≡ later_text hs → spread gs ≡ spread hs
later_one last last' [] [] a b e = refl
later_one last last' [] (h ∷ hs) a b e = cc
later_one last last' (g ∷ gs) [] a b e = cc
later_one last last' (g ∷ gs) (h ∷ hs) a b e =
    let rest : group_text g ++ later_text gs ≡ group_text h ++ later_text hs = ap (drop 1) e in
    let r = front_one g h (later_text gs) (later_text hs) a.1 b.1 (later_no_digit gs) (later_no_digit hs) rest in
    ap (λ x. x ++ spread gs) (same_stretch g h r.0 r.1)
    ∙ ap (λ x. stretch_of h ++ x) (later_one (Some g.choice) (Some h.choice) gs hs a.2 b.2 r.2)

groups_one : (gs hs : List Group) → 0 < length gs → 0 < length hs → AreGroups None gs → AreGroups None hs →
    groups_text gs ≡ groups_text hs → spread gs ≡ spread hs
groups_one [] hs n m a b e = absurd (omega arith)
groups_one (g ∷ gs) [] n m a b e = absurd (omega arith)
groups_one (g ∷ gs) (h ∷ hs) n m a b e = later_one None None (g ∷ gs) (h ∷ hs) a b (ap (λ x. 44 ∷ x) e)

pub grouped_one : (text : List ℕ) (c d : List Bool) → IsGrouped None text c → IsGrouped None text d → c ≡ d
grouped_one text c d h k =
    h.choices_are ∙ (groups_one h.groups k.groups h.some k.some h.groups_are k.groups_are
    (sym h.text_is ∙ k.text_is) ∙ sym k.choices_are)

-- a text of groups is no plain text
second_byte : (g : Group) (gs : List Group) → get_or (groups_text (g ∷ gs)) 1 0 ≡ 42
second_byte g gs = refl

plain_second : (c : List Bool) → get_or (plain_text c) 1 0 ≢ 42
plain_second [] e = let x : 0 ≡ 42 = e in omega (arith, x)
plain_second (a ∷ []) e = let x : 0 ≡ 42 = e in omega (arith, x)
plain_second (a ∷ true ∷ c) e = let x : 49 ≡ 42 = e in omega (arith, x)
plain_second (a ∷ false ∷ c) e = let x : 48 ≡ 42 = e in omega (arith, x)

pub not_both : (text : List ℕ) (c d : List Bool) → text ≡ plain_text c → IsGrouped None text d → ⊥
not_both text c d e h = by_groups h.groups h.some (sym e ∙ h.text_is)
  where
    by_groups : (gs : List Group) → 0 < length gs → plain_text c ≡ groups_text gs → ⊥
    by_groups [] n f = absurd (omega arith)
    by_groups (g ∷ gs) n f = plain_second c (ap (λ l. get_or l 1 0) f)

-- what is printed is read back
abbrev pub IsStretched : Option Bool → List Stretch → Type 0
IsStretched last [] = Unit {0}
IsStretched last (s ∷ ss) = Differs last s.choice × (0 < s.size) × IsStretched (Some s.choice) ss

abbrev pub choices_in : List Stretch → List Bool
choices_in [] = []
choices_in (s ∷ ss) = replicate s.size s.choice ++ choices_in ss

pub same_or_other : (b c : Bool) → (b ≡ c) ⊎ (b ≡ c → ⊥)
same_or_other true true = inl refl
same_or_other false false = inl refl
same_or_other true false = inr (λ e. cc)
same_or_other false true = inr (λ e. cc)

same_tells : (b c : Bool) → is_same b c ≡ true → b ≡ c
same_tells true c e = sym e
same_tells false true e = cc
same_tells false false e = refl

other_tells : (b c : Bool) → is_same b c ≡ false → b ≡ c → ⊥
other_tells true c e f = let x : true ≡ false = f ∙ e in cc
other_tells false true e f = cc
other_tells false false e f = cc

pub same_true : (b : Bool) → is_same b b ≡ true
same_true true = refl
same_true false = refl

pub other_false : (b c : Bool) → (b ≡ c → ⊥) → is_same b c ≡ false
other_false true true f = absurd (f refl)
other_false true false f = refl
other_false false true f = refl
other_false false false f = absurd (f refl)

-- one more choice before stretches
with_by : (last : Option Bool) (b : Bool) (s : Stretch) (ss : List Stretch) (t : Bool) → is_same b s.choice ≡ t →
    Differs last b → IsStretched None (s ∷ ss) →
    IsStretched last
    (if t then record { choice = b; size = s.size + 1 } ∷ ss else record { choice = b; size = 1 } ∷ s ∷ ss)
with_by last b s ss true e d h =
    (d, omega arith, subst (λ x. IsStretched (Some x) ss) (sym (same_tells b s.choice e)) h.2)
with_by last b s ss false e d h = (d, omega arith, (other_tells b s.choice e, h.1, h.2))

with_stretched : (last : Option Bool) (b : Bool) (ss : List Stretch) → Differs last b → IsStretched None ss →
    IsStretched last (with_choice b ss)
with_stretched last b [] d h = (d, omega arith, tt)
with_stretched last b (s ∷ ss) d h = with_by last b s ss (is_same b s.choice) refl d h

pub stretched : (c : List Bool) → IsStretched None (stretches c)
stretched [] = tt
stretched (b ∷ c) = with_stretched None b (stretches c) tt (stretched c)

choices_by : (b : Bool) (s : Stretch) (ss : List Stretch) (t : Bool) → is_same b s.choice ≡ t →
    choices_in (if t then record { choice = b; size = s.size + 1 } ∷ ss else record { choice = b; size = 1 } ∷ s
    ∷ ss) ≡ b ∷ choices_in (s ∷ ss)
choices_by b s ss true e =
    let n : s.size + 1 ≡ suc s.size = omega arith in
    ap (λ k. replicate k b ++ choices_in ss) n
    ∙ ap (λ x. b ∷ (replicate s.size x ++ choices_in ss)) (same_tells b s.choice e)
choices_by b s ss false e = refl

choices_with : (b : Bool) (ss : List Stretch) → choices_in (with_choice b ss) ≡ b ∷ choices_in ss
choices_with b [] = refl
choices_with b (s ∷ ss) = choices_by b s ss (is_same b s.choice) refl

pub choices_all : (c : List Bool) → choices_in (stretches c) ≡ c
choices_all [] = refl
choices_all (b ∷ c) = choices_with b (stretches c) ∙ ap (λ x. b ∷ x) (choices_all c)

-- the groups of stretches stand for the same choices
record Grouping (last : Option Bool) (ss : List Stretch) : Type 0 where
  are : AreGroups last (map group_of ss)
  same : spread (map group_of ss) ≡ choices_in ss

grouping : (last : Option Bool) (ss : List Stretch) → IsStretched last ss → length (choices_in ss) < 2 ^ 64 →
    Grouping last ss
grouping last [] h lt = record { are = tt; same = refl }
grouping last (s ∷ ss) h lt =
    let size = length-append (replicate s.size s.choice) (choices_in ss) in
    let own = length-replicate s.size s.choice in
    let below : s.size < 2 ^ 64 = omega (arith, size, own, lt) in
    let rest : length (choices_in ss) < 2 ^ 64 = omega (arith, size, own, lt) in
    let r = grouping (Some s.choice) ss h.2 rest in
    let d = decimal_is_IsNumeral s.size below in
    record {
      are = (h.0, (d.0, first_decimal s.size h.1 below), r.are);
      same =
          ap (λ n. replicate n s.choice ++ spread (map group_of ss)) d.1
          ∙ ap (λ x. replicate s.size s.choice ++ x) r.same;
    }

some_with : (b : Bool) (ss : List Stretch) → 0 < length (map group_of (with_choice b ss))
some_with b [] = omega arith
some_with b (s ∷ ss) = by_test (is_same b s.choice)
  where
    by_test : (t : Bool) → 0 < length (map group_of
        (if t then record { choice = b; size = s.size + 1 } ∷ ss else record { choice = b; size = 1 } ∷ s ∷ ss))
    by_test true = omega arith
    by_test false = omega arith

pub some_groups : (c : List Bool) → 0 < length c → 0 < length (map group_of (stretches c))
some_groups [] h = absurd (omega arith)
some_groups (b ∷ c) h = some_with b (stretches c)

pub grouped_reads : (c : List Bool) → 0 < length c → length c < 2 ^ 64 → IsGrouped None (grouped_text c) c
grouped_reads c some lt =
    let r = grouping None (stretches c) (stretched c) (subst (λ x. length x < 2 ^ 64) (sym (choices_all c)) lt) in
    record {
      groups = map group_of (stretches c);
      some = some_groups c some;
      groups_are = r.are;
      text_is = refl;
      choices_are = sym (r.same ∙ choices_all c);
    }

first_by : (b : Bool) (s : Stretch) (ss : List Stretch) (a : Bool) (t : Bool) → (a ≡ b → ⊥) →
    with_choice a
    (if t then record { choice = b; size = s.size + 1 } ∷ ss else record { choice = b; size = 1 } ∷ s ∷ ss)
    ≡ record { choice = a; size = 1 }
    ∷ (if t then record { choice = b; size = s.size + 1 } ∷ ss else record { choice = b; size = 1 } ∷ s ∷ ss)
first_by b s ss a true f =
    ap (λ u. if u then record { choice = a; size = s.size + 1 + 1 } ∷ ss else record { choice = a; size = 1 }
    ∷ record { choice = b; size = s.size + 1 } ∷ ss) (other_false a b f)
first_by b s ss a false f =
    ap (λ u. if u then record { choice = a; size = 1 + 1 } ∷ s ∷ ss else record { choice = a; size = 1 }
    ∷ record { choice = b; size = 1 } ∷ s ∷ ss) (other_false a b f)

-- another choice begins another stretch
another : (a b : Bool) (ss : List Stretch) → (a ≡ b → ⊥) →
    with_choice a (with_choice b ss) ≡ record { choice = a; size = 1 } ∷ with_choice b ss
another a b [] f =
    ap (λ u. if u then record { choice = a; size = 1 + 1 } ∷ [] else record { choice = a; size = 1 }
    ∷ record { choice = b; size = 1 } ∷ []) (other_false a b f)
another a b (s ∷ ss) f = first_by b s ss a (is_same b s.choice) f

stretches_before : (b : Bool) (rest : List Bool) → StartsOther b rest →
    stretches (b ∷ rest) ≡ record { choice = b; size = 1 } ∷ stretches rest
stretches_before b [] h = refl
stretches_before b (x ∷ rest) h = another b x (stretches rest) h

one_more : (b : Bool) (n : ℕ) (ss : List Stretch) →
    with_choice b (record { choice = b; size = n } ∷ ss) ≡ record { choice = b; size = n + 1 } ∷ ss
one_more b n ss =
    ap (λ u. if u then record { choice = b; size = n + 1 } ∷ ss else record { choice = b; size = 1 }
    ∷ record { choice = b; size = n } ∷ ss) (same_true b)

-- the longest stretch at the front
pub stretches_front : (n : ℕ) (b : Bool) (rest : List Bool) → 0 < n → StartsOther b rest →
    stretches (replicate n b ++ rest) ≡ record { choice = b; size = n } ∷ stretches rest
stretches_front zero b rest some h = absurd (omega arith)
stretches_front (suc zero) b rest some h = stretches_before b rest h
stretches_front (suc (suc k)) b rest some h =
    let n : suc k + 1 ≡ suc (suc k) = omega arith in
    ap (with_choice b) (stretches_front (suc k) b rest (omega arith) h)
    ∙ (one_more b (suc k) (stretches rest) ∙ ap (λ i. record { choice = b; size = i } ∷ stretches rest) n)

-- the text of choices by their first stretch
pub text_front : (c : List Bool) (n : ℕ) (b : Bool) → take n c ≡ replicate n b → 0 < n →
    StartsOther b (drop n c) → grouped_text c
    ≡ group_text (group_of (record { choice = b; size = n })) ++ later_text (map group_of (stretches (drop n c)))
text_front c n b same some other =
    let split : c ≡ replicate n b ++ drop n c = sym (take-append-drop n c) ∙ ap (λ x. x ++ drop n c) same in
    ap (λ x. groups_text (map group_of x)) (ap stretches split ∙ stretches_front n b (drop n c) some other)

pub later_by : (c : List Bool) → 0 < length c → later_text (map group_of (stretches c)) ≡ 44 ∷ grouped_text c
later_by c some = by_groups (map group_of (stretches c)) (some_groups c some)
  where
    by_groups : (gs : List Group) → 0 < length gs → later_text gs ≡ 44 ∷ groups_text gs
    by_groups [] h = absurd (omega arith)
    by_groups (g ∷ gs) h = refl

pub choices_read : (c : List Bool) → length c < 2 ^ 64 → IsTextOf (choices_text c) c
unfolding choices_text
choices_read c lt = by_size (nat_lt 64 (length c)) refl
  where
    by_size : (t : Bool) → nat_lt 64 (length c) ≡ t → IsTextOf (if t then grouped_text c else plain_text c) c
    by_size false e = inl refl
    by_size true e = let some : 64 < length c = grind (arith, nat_tests) in inr (grouped_reads c (omega arith) lt)

pub reads_one : (text : List ℕ) (c d : List Bool) → IsTextOf text c → IsTextOf text d → c ≡ d
reads_one text c d (inl h) (inl k) = plain_one c d (sym h ∙ k)
reads_one text c d (inl h) (inr k) = absurd (not_both text c d h k)
reads_one text c d (inr h) (inl k) = absurd (not_both text d c k h)
reads_one text c d (inr h) (inr k) = grouped_one text c d h k

-- groups with a comma before each, where there is one
pub later_is : (gs : List Group) → 0 < length gs → later_text gs ≡ 44 ∷ groups_text gs
later_is [] h = absurd (omega arith)
later_is (g ∷ gs) h = refl
