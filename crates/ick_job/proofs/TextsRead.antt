-- A text is that of a list of choices, or of none: it can be told.
use Rattle.std.proofs.Common.{◌≡◌, ◌≢◌, ◌∙◌, ◌<◌, ◌≤◌, ◌==◌, ◌⊎◌, ◌++◌, ℕ}
use Rattle.std.proofs.Common.{zero, suc, Bool, true, false, List, [], ◌∷◌}
use Rattle.std.proofs.Common.{Option, Some, None, inl, inr, ap, arith, drop, get_or, length, map, refl, subst, sym}
use Rattle.std.specs.List.{list_all}
use Rattle.std.specs.Char.{digit_value}
use Rattle.std.specs.Str.Parse.{AllDigits}
use Rattle.std.proofs.lemmas.Bool.{cases_eq, cases_lt}
use Rattle.std.proofs.lemmas.List.{length-append}
use Rattle.ick_explorer.specs.ChoiceTexts.{AreGroups, Differs, Group, IsLength, IsPlain, IsTextOf, digit_of, group_text}
use Rattle.ick_explorer.specs.ChoiceTexts.{groups_text, is_digit, later_text, spread}
use Rattle.ick_explorer.specs.Readings.{HasNoDigit}
use Rattle.ick_explorer.proofs.GroupLaws.{digits_one, front_one, later_is, later_no_digit}
use Rattle.ick_explorer.proofs.TextLaws.{digit_one, empty_reads, reads_digits, reads_nothing}

-- plain texts
abbrev PlainDecided : List ℕ → Type 0
PlainDecided text = ((c : List Bool) × IsPlain text c) ⊎ ((c : List Bool) → IsPlain text c → ⊥)

dash_decided : (text : List ℕ) → (text ≡ 45 ∷ []) ⊎ (text ≢ 45 ∷ [])
dash_decided [] = inr (λ e. cc)
dash_decided (b ∷ []) =
    elim (cases_eq b 45) [
      | inl same ↦ inl (ap (λ x. x ∷ []) same)
      | inr other ↦ inr
          (λ e. other (ap (λ l. get_or l 0 0) e))
    ]
dash_decided (b ∷ x ∷ text) = inr (λ e. let long = ap (λ (l : List ℕ). length l) e in omega arith)

by_digits : (text : List ℕ) (t : Bool) → list_all is_digit text ≡ t → text ≢ 45 ∷ [] → 0 < length text
    → PlainDecided text
by_digits text true digits other some =
    inl (map (λ b. b == 49) text, reads_digits text (map (λ b. b == 49) text) some digits refl)
by_digits text false digits other some =
    inr (λ c h. reads_nothing text c other (λ e. let both : true ≡ false = sym e ∙ digits in cc) h)

plain_decided : (text : List ℕ) → PlainDecided text
plain_decided text = elim (dash_decided text) [
  | inl dash ↦ inl ([], dash)
  | inr other ↦ elim (cases_lt 0 (length text)) [
    | inl some ↦ by_digits text (list_all is_digit text) refl other some
    | inr none ↦ inr (λ c h. empty_reads text c (no_item text none) h)
  ]
]
  where
    no_item : (text : List ℕ) → length text ≤ 0 → text ≡ []
    no_item [] h = refl
    no_item (b ∷ text) h = absurd (omega arith)

-- texts of groups
abbrev Found : Option Bool → List ℕ → Type 0
Found last text = (gs : List Group) × (0 < length gs) × AreGroups last gs × (text ≡ groups_text gs)

abbrev NotFound : Option Bool → List ℕ → Type 0
NotFound last text = (gs : List Group) → 0 < length gs → AreGroups last gs → text ≡ groups_text gs → ⊥

abbrev Decided : Option Bool → List ℕ → Type 0
Decided last text = Found last text ⊎ NotFound last text

-- digits at the front, and what follows them
record Split (text : List ℕ) : Type 0 where
  digits : List ℕ
  tail : List ℕ
  all : AllDigits 10 digits
  stops : HasNoDigit tail
  text_is : text ≡ digits ++ tail

split : (text : List ℕ) → Split text
split [] = record { digits = []; tail = []; all = tt; stops = tt; text_is = refl }
split (b ∷ text) = elim (cases_lt (digit_value b) 10) [
  | inl digit ↦ let r = split text in
      record {
        digits = b ∷ r.digits;
        tail = r.tail;
        all = (digit, r.all);
        stops = r.stops;
        text_is = ap
            (λ t. b ∷ t) r.text_is;
      }
  | inr other ↦ record { digits = []; tail = b ∷ text; all = tt; stops = λ h. omega arith; text_is = refl }
]

length_decided : (digits : List ℕ) → AllDigits 10 digits → IsLength digits ⊎ (IsLength digits → ⊥)
length_decided digits all = elim (cases_lt 0 (length digits)) [
  | inr none ↦ inr (λ l. let some = l.0.0 in omega arith)
  | inl some ↦ elim (cases_lt 48 (get_or digits 0 0)) [
    | inl high ↦ inl ((some, all), high)
    | inr low ↦ inr (λ l. let high = l.1 in omega arith)
  ]
]

choice_of_byte : (b : ℕ) → ((c : Bool) × (b ≡ digit_of c)) ⊎ ((c : Bool) → b ≡ digit_of c → ⊥)
choice_of_byte b = elim (cases_eq b 48) [
  | inl zeros ↦ inl (false, zeros)
  | inr other ↦ elim (cases_eq b 49) [
    | inl ones ↦ inl (true, ones)
    | inr neither ↦ inr
        (λ c e. no_choice b c other neither e)
  ]
]
  where
    no_choice : (b : ℕ) (c : Bool) → b ≢ 48 → b ≢ 49 → b ≡ digit_of c → ⊥
    no_choice b false other neither e = other e
    no_choice b true other neither e = neither e

differs_decided : (last : Option Bool) (c : Bool) → Differs last c ⊎ (Differs last c → ⊥)
differs_decided None c = inl tt
differs_decided (Some true) true = inr (λ d. d refl)
differs_decided (Some false) false = inr (λ d. d refl)
differs_decided (Some true) false = inl (λ e. cc)
differs_decided (Some false) true = inl (λ e. cc)

not_comma : (last : Option Bool) (g : Group) (b : ℕ) (more : List ℕ) → IsLength g.digits
    → HasNoDigit (b ∷ more)
    → b ≢ 44 → NotFound last (group_text g ++ b ∷ more)
not_comma last g b more l stops other [] some are is = omega arith
not_comma last g b more l stops other (h ∷ []) some are is =
    let r = front_one g h (b ∷ more) [] l are.1 stops (later_no_digit []) is in
    let long = ap (λ (t : List ℕ). length t) r.2 in omega arith
not_comma last g b more l stops other (h ∷ k ∷ ks) some are is =
    let r = front_one g h (b ∷ more) (later_text (k ∷ ks)) l are.1 stops (later_no_digit (k ∷ ks)) is in
    other (ap (λ t. get_or t 0 0) r.2)

not_after : (last : Option Bool) (g : Group) (b : ℕ) (more : List ℕ) → IsLength g.digits
    → HasNoDigit (b ∷ more)
    → NotFound (Some g.choice) more → NotFound last (group_text g ++ b ∷ more)
not_after last g b more l stops none [] some are is = omega arith
not_after last g b more l stops none (h ∷ []) some are is =
    let r = front_one g h (b ∷ more) [] l are.1 stops (later_no_digit []) is in
    let long = ap (λ (t : List ℕ). length t) r.2 in omega arith
not_after last g b more l stops none (h ∷ k ∷ ks) some are is =
    let r = front_one g h (b ∷ more) (later_text (k ∷ ks)) l are.1 stops (later_no_digit (k ∷ ks)) is in
    none (k ∷ ks) (omega arith) (subst (λ (c : Bool). AreGroups (Some c) (k ∷ ks)) (sym r.0) are.2)
    (ap (drop 1) r.2)

-- what follows a group
after_group : (last : Option Bool) (g : Group) (tail : List ℕ) → Differs last g.choice → IsLength g.digits
    → HasNoDigit tail
    → ((more : List ℕ) → tail ≡ 44 ∷ more → Decided (Some g.choice) more) →
    Decided last (group_text g ++ tail)
after_group last g [] d l stops rest = inl (g ∷ [], omega arith, (d, l, tt), refl)
after_group last g (b ∷ more) d l stops rest = elim (cases_eq b 44) [
  | inr other ↦ inr (not_comma last g b more l stops other)
  | inl comma ↦ elim (rest more (ap (λ x. x ∷ more) comma)) [
    | inl found ↦ inl (
      g ∷ found.0,
      omega arith,
      (d, l, found.2),
      ap (λ t. group_text g ++ t)
          (ap (λ x. x ∷ more) comma ∙ (ap (λ t. 44 ∷ t) found.3 ∙ sym (later_is found.0 found.1))),
    )
    | inr none ↦ inr (not_after last g b more l stops none)
  ]
]

-- no group stands at the front
no_group : (last : Option Bool) (text : List ℕ)
    → ((h : Group) (tail : List ℕ) → Differs last h.choice → IsLength h.digits → HasNoDigit tail
    → text ≡ group_text h ++ tail → ⊥) → NotFound last text
no_group last text f [] some are is = omega arith
no_group last text f (h ∷ hs) some are is = f h (later_text hs) are.0 are.1 (later_no_digit hs) is

too_short : (text : List ℕ) (h : Group) (tail : List ℕ) → length text < 2 → text ≡ group_text h ++ tail →
    ⊥
too_short text h tail short is = let long = ap (λ (t : List ℕ). length t) is in omega arith

groups_decided : (n : ℕ) (last : Option Bool) (text : List ℕ) → length text ≤ n → Decided last text
groups_decided n last [] fits = inr (no_group last [] (λ h tail d l stops is. too_short [] h tail (omega arith) is))
groups_decided n last (b ∷ []) fits =
    inr (no_group last (b ∷ []) (λ h tail d l stops is. too_short (b ∷ []) h tail (omega arith) is))
groups_decided zero last (b ∷ m ∷ rest) fits = absurd (omega arith)
groups_decided (suc n) last (b ∷ m ∷ rest) fits = elim (cases_eq m 42) [
  | inr other ↦ inr (no_group last (b ∷ m ∷ rest) (λ h tail d l stops is. other (ap (λ t. get_or t 1 0) is)))
  | inl star ↦ elim (choice_of_byte b) [
    | inr none ↦
        inr (no_group last (b ∷ m ∷ rest) (λ h tail d l stops is. none h.choice (ap (λ t. get_or t 0 0) is)))
    | inl choice ↦ elim (differs_decided last choice.0) [
      | inr same ↦ inr (no_group last (b ∷ m ∷ rest) (λ h tail d l stops is.
          same (subst (λ (c : Bool). Differs last c)
          (digit_one h.choice choice.0 (sym (ap (λ t. get_or t 0 0) is) ∙ choice.1)) d)))
      | inl differs ↦
          let s = split rest in
          elim (length_decided s.digits s.all) [
            | inr bad ↦ inr (no_group last (b ∷ m ∷ rest) (λ h tail d l stops is.
                bad (subst (λ (ds : List ℕ). IsLength ds)
                (digits_one h.digits s.digits tail s.tail l.0.1 s.all stops s.stops
                (sym (ap (drop 2) is) ∙ s.text_is)).0 l)))
            | inl good ↦
                subst (λ (t : List ℕ). Decided last t)
                (sym (ap (λ x. x ∷ m ∷ rest) choice.1
                ∙ (ap (λ x. digit_of choice.0 ∷ x ∷ rest) star
                ∙ ap (λ t. digit_of choice.0 ∷ 42 ∷ t) s.text_is)))
                (after_group last (record { choice = choice.0; digits = s.digits }) s.tail differs good s.stops
                (λ more e. groups_decided n (Some choice.0) more
                (let whole = ap (λ (t : List ℕ). length t) s.text_is in
                let parts = length-append s.digits s.tail in
                let end = ap (λ (t : List ℕ). length t) e in omega arith)))
          ]
    ]
  ]
]

-- a list of choices of a text, or none
pub text_decided : (text : List ℕ) → ((c : List Bool) × IsTextOf text c)
    ⊎ ((c : List Bool) → IsTextOf text c → ⊥)
text_decided text = elim (plain_decided text) [
  | inl plain ↦ inl (plain.0, inl plain.1)
  | inr no_plain ↦ elim (groups_decided (length text) None text (omega arith)) [
    | inl found ↦ inl (
      spread found.0,
      inr (record { groups = found.0; some = found.1; groups_are = found.2; text_is = found.3; choices_are = refl }),
    )
    | inr none ↦ inr (λ c h. elim h [
      | inl plain ↦ no_plain c plain
      | inr grouped ↦ none grouped.groups grouped.some grouped.groups_are grouped.text_is
    ])
  ]
]
