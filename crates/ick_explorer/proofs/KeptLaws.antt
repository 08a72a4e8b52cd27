-- What a list of choices keeps for its text, as the list changes.
use Rattle.std.proofs.Common.{◌≡◌, ℕ, zero, suc, ◌+◌, ◌<◌, ◌≤◌, Bool, true, false, if◌then◌else◌}
use Rattle.std.proofs.Common.{List, [], ◌∷◌, ◌++◌, map, length, take, set, get_or, nat_lt, refl, ap, sym, ◌∙◌}
use Rattle.std.proofs.Common.{append_assoc, arith}
use Rattle.std.specs.Prelude.{Result, Ok, Err, OnOk, is_err}
use Rattle.std.proofs.Math.Seq.{take-length}
use Rattle.std.proofs.lemmas.Bool.Decides.{nat_tests}
use Rattle.std.proofs.lemmas.List.{length_push, map-append, take_all, take_at, take-append-le, take-map, take-take}
use Rattle.std.proofs.lemmas.List.{take_more_set, take_more, length-map, length-take-le, append-nil}
use Rattle.ick_explorer.specs.ChoiceTexts.{digit_of, stretches, group_of, groups_text, grouped_text, plain_text}
use Rattle.ick_explorer.specs.ChoiceTexts.{Group, Stretch, group_text, later_text, choices_text}
use Rattle.ick_explorer.specs.Choices.{KeepsText}

pub none_kept : (digits : List ℕ) → KeepsText digits [] 0 []
none_kept digits = record { plain = refl; within = omega arith; stretched = refl }

-- a choice behind the first 64
pub kept_longer : (digits : List ℕ) (kept : List Stretch) (n : ℕ) (c : List Bool) (b : Bool) →
    length digits ≡ 64 → 64 ≤ length c → KeepsText digits kept n c → KeepsText digits kept n (c ++ b ∷ [])
kept_longer digits kept n c b size le h =
    let more = length_push c b in
    record {
      plain =
          take_all (length (c ++ b ∷ [])) digits (omega (arith, more, size, le))
          ∙ (sym (take_all (length c) digits (omega (arith, size, le)))
          ∙ (h.plain ∙ ap (map digit_of) (sym (take-append-le 64 c (b ∷ []) le))));
      within = let w = h.within in omega (arith, more, w);
      stretched = h.stretched ∙ ap stretches (sym (take-append-le n c (b ∷ []) h.within));
    }

-- a choice among the first 64
pub kept_with_digit : (digits : List ℕ) (kept : List Stretch) (n : ℕ) (c : List Bool) (b : Bool) →
    length digits ≡ 64 → length c < 64 → KeepsText digits kept n c →
    KeepsText (set digits (length c) (digit_of b)) kept n (c ++ b ∷ [])
kept_with_digit digits kept n c b size lt h =
    let more = length_push c b in
    let d = digit_of b in
    record {
      plain =
          ap (λ k. take k (set digits (length c) d)) more
          ∙ (take_more_set digits (length c) d (omega (arith, size, lt))
          ∙ (ap (λ x. x ++ d ∷ []) (h.plain ∙ ap (map digit_of) (take_all 64 c (omega (arith, lt))))
          ∙ (sym (map-append digit_of c (b ∷ []))
          ∙ ap (map digit_of) (sym (take_all 64 (c ++ b ∷ []) (omega (arith, more, lt)))))));
      within = let w = h.within in omega (arith, more, w);
      stretched = h.stretched ∙ ap stretches (sym (take-append-le n c (b ∷ []) h.within));
    }

take_either : {A : Type 0} (m n : ℕ) (xs : List A) → take m (take n xs) ≡ take n (take m xs)
take_either zero zero xs = refl
take_either zero (suc n) xs = refl
take_either (suc m) zero xs = refl
take_either (suc m) (suc n) [] = refl
take_either (suc m) (suc n) (x ∷ xs) = ap (λ r. x ∷ r) (take_either m n xs)

plain_shorter : (digits : List ℕ) (c : List Bool) (b : Bool) →
    take (length (c ++ b ∷ [])) digits ≡ map digit_of (take 64 (c ++ b ∷ [])) →
    take (length c) digits ≡ map digit_of (take 64 c)
plain_shorter digits c b h =
    let more = length_push c b in
    sym (take-take (length c) (length (c ++ b ∷ [])) digits (omega (arith, more)))
    ∙ (ap (take (length c)) h
    ∙ (take-map digit_of (length c) (take 64 (c ++ b ∷ []))
    ∙ ap (map digit_of) (take_either (length c) 64 (c ++ b ∷ [])
    ∙ ap (take 64) (take_at c (b ∷ []) (length c) refl))))

-- without the last choice, which has no stretch yet
pub kept_shorter : (digits : List ℕ) (kept : List Stretch) (n : ℕ) (c : List Bool) (b : Bool) → n ≤ length c →
    KeepsText digits kept n (c ++ b ∷ []) → KeepsText digits kept n c
kept_shorter digits kept n c b le h = record {
  plain = plain_shorter digits c b h.plain;
  within = le;
  stretched = h.stretched ∙ ap stretches (take-append-le n c (b ∷ []) le);
}

-- without the last choice, whose stretch is kept
pub all_kept : (digits : List ℕ) (kept : List Stretch) (n : ℕ) (c : List Bool) (b : Bool) → length c < n →
    KeepsText digits kept n (c ++ b ∷ []) → kept ≡ stretches (c ++ b ∷ [])
all_kept digits kept n c b lt h =
    let more = length_push c b in
    h.stretched ∙ ap stretches (take_all n (c ++ b ∷ []) (omega (arith, more, lt)))

pub kept_unstretched : (digits : List ℕ) (kept kept' : List Stretch) (n at : ℕ) (c : List Bool) (b : Bool) →
    at ≡ length c → at < n →
    ((d : List Bool) (x : Bool) → kept ≡ stretches (d ++ x ∷ []) → kept' ≡ stretches d) →
    KeepsText digits kept n (c ++ b ∷ []) → KeepsText digits kept' at c
kept_unstretched digits kept kept' n at c b is lt shorter h =
    let off = shorter c b (all_kept digits kept n c b (omega (arith, is, lt)) h) in
    record {
      plain = plain_shorter digits c b h.plain;
      within = omega (arith, is);
      stretched = off ∙ (ap stretches (sym (take-length c)) ∙ ap (λ k. stretches (take k c)) (sym is));
    }

-- with the stretches of the whole list, or with none
pub kept_whole : (digits : List ℕ) (kept kept' : List Stretch) (n : ℕ) (c : List Bool) → kept' ≡ stretches c →
    KeepsText digits kept n c → KeepsText digits kept' (length c) c
kept_whole digits kept kept' n c e h = record {
  plain = h.plain;
  within = omega arith;
  stretched = e ∙ ap stretches (sym (take-length c));
}

pub kept_without : (digits : List ℕ) (kept : List Stretch) (n : ℕ) (c : List Bool) → KeepsText digits kept n c →
    KeepsText digits [] 0 c
kept_without digits kept n c h = record { plain = h.plain; within = omega arith; stretched = refl }

-- the texts that are made of these
pub text_of_none : (c : List Bool) → length c ≡ 0 → 45 ∷ [] ≡ choices_text c
unfolding choices_text
text_of_none [] e = refl
text_of_none (b ∷ c) e = absurd (omega (arith, e))

pub text_of_digits : (digits : List ℕ) (c : List Bool) → 0 < length c → length c ≤ 64 →
    take (length c) digits ≡ map digit_of (take 64 c) → take (length c) digits ≡ choices_text c
unfolding choices_text
text_of_digits digits [] some le h = absurd (omega (arith, some))
text_of_digits digits (b ∷ c) some le h =
    let e : nat_lt 64 (length (b ∷ c)) ≡ false = grind (arith, nat_tests) in
    h ∙ (ap (map digit_of) (take_all 64 (b ∷ c) le)
    ∙ ap (λ t. if t then grouped_text (b ∷ c) else plain_text (b ∷ c)) (sym e))

pub text_of_stretches : (kept : List Stretch) (c : List Bool) → 64 < length c → kept ≡ stretches c →
    groups_text (map group_of kept) ≡ choices_text c
unfolding choices_text
text_of_stretches kept c lt h =
    let e : nat_lt 64 (length c) ≡ true = grind (arith, nat_tests) in
    ap (λ ss. groups_text (map group_of ss)) h ∙ ap (λ t. if t then grouped_text c else plain_text c) (sym e)

later_behind : (gs : List Group) (g : Group) → later_text (gs ++ g ∷ []) ≡ later_text gs ++ 44 ∷ group_text g
later_behind [] g = ap (λ t. 44 ∷ t) (append-nil (group_text g))
later_behind (x ∷ gs) g =
    ap (λ t. 44 ∷ t) (ap (λ t. group_text x ++ t) (later_behind gs g)
    ∙ sym (append_assoc (group_text x) (later_text gs) (44 ∷ group_text g)))

-- what stands before a group that has this many groups before it
abbrev pub comma : ℕ → List ℕ
comma zero = []
comma (suc n) = 44 ∷ []

groups_behind : (gs : List Group) (g : Group) →
    groups_text (gs ++ g ∷ []) ≡ groups_text gs ++ comma (length gs) ++ group_text g
groups_behind [] g = append-nil (group_text g)
groups_behind (x ∷ gs) g =
    ap (λ t. group_text x ++ t) (later_behind gs g)
    ∙ (sym (append_assoc (group_text x) (later_text gs) (44 ∷ group_text g))
    ∙ sym (append_assoc (group_text x ++ later_text gs) (44 ∷ []) (group_text g)))

-- one more group behind those of the first stretches
pub groups_more : (ss : List Stretch) (at : ℕ) (d : Stretch) → at < length ss →
    groups_text (map group_of (take at ss)) ++ comma at ++ group_text (group_of (get_or ss at d))
    ≡ groups_text (map group_of (take (at + 1) ss))
groups_more ss at d lt =
    let front = map group_of (take at ss) in
    let group = group_of (get_or ss at d) in
    let size : length front ≡ at = length-map (take at ss) group_of ∙ length-take-le at ss (omega (arith, lt)) in
    sym (ap (λ x. groups_text (map group_of x)) (take_more ss at d lt)
    ∙ (ap groups_text (map-append group_of (take at ss) (get_or ss at d ∷ []))
    ∙ (groups_behind front group ∙ ap (λ n. groups_text front ++ comma n ++ group_text group) size)))

-- what holds of an answer that is no error
pub on_ok : {T E P : Type 0} (r : Result T E) (b : Bool) → b ≡ is_err r → b ≡ false → OnOk r P → P
on_ok (Ok x) b e f p = p
on_ok (Err x) b e f p = let n : true ≡ false = sym e ∙ f in cc

pub on_ok_map : {T E P Q : Type 0} (r : Result T E) → (P → Q) → OnOk r P → OnOk r Q
on_ok_map (Ok x) f p = f p
on_ok_map (Err x) f p = tt
