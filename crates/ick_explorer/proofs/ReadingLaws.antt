-- How a text of groups is read from its front.
use Rattle.std.proofs.Common.{◌≡◌, ◌≢◌, inl, inr, ℕ, zero, suc, ◌+◌, ◌*◌, ◌-◌, ◌^◌}
use Rattle.std.proofs.Common.{◌<◌, ◌≤◌, min, Bool, List, [], ◌∷◌, ◌++◌}
use Rattle.std.proofs.Common.{length, take, drop, get_or, refl, ap, sym, ◌∙◌, subst, arith, append_assoc}
use Rattle.std.specs.Prelude.{Option, Some, None, replicate}
use Rattle.std.specs.Char.{digit_value}
use Rattle.std.specs.Str.Parse.{AllDigits, digits_value}
use Rattle.std.proofs.lemmas.List.{append-nil, drop_more, length-append, length-replicate, take-append-drop, take_all}
use Rattle.std.proofs.lemmas.List.{take_rest}
use Rattle.std.proofs.lemmas.Bool.{cases_lt}
use Rattle.std.proofs.Math.Seq.{drop-length}
use Rattle.std.proofs.Math.Nat.{eq-or-lt_of_le}
use Rattle.std.proofs.lemmas.Str.Parse.{digit_from_value}
use Rattle.ick_explorer.specs.ChoiceTexts.{digit_of, Group, IsLength, group_text, later_text, groups_text, Differs}
use Rattle.ick_explorer.specs.ChoiceTexts.{AreGroups, stretch_of, spread, IsGrouped}
use Rattle.ick_explorer.specs.Readings.{HasNoDigit, IsCapped, IsFront, IsRead, front_group}
use Rattle.ick_explorer.specs.declared.groups.Front.{Front}
use Rattle.ick_explorer.proofs.DropLaws.{drop_twice}
use Rattle.ick_explorer.proofs.GroupLaws.{front_one, later_is, later_no_digit, same_stretch}

-- numbers up to the cap
pub capped_min : (value number : ℕ) → value ≡ min number (2 ^ 32) → IsCapped value number
capped_min value number e = elim (cases_lt number (2 ^ 32)) [
  | inl lt ↦ inl (lt, omega (arith, e, lt))
  | inr le ↦ inr (le, omega (arith, e, le))
]

pub capped_more : (value number byte digit after next : ℕ) → IsCapped value number → digit + 48 ≡ byte →
    IsCapped after (value * 10 + (byte - 48)) → next ≡ number * 10 + digit → IsCapped after next
capped_more value number byte digit after next (inl (a, b)) d (inl (x, y)) e =
    inl (omega (arith, a, b, d, x, y, e), omega (arith, a, b, d, x, y, e))
capped_more value number byte digit after next (inl (a, b)) d (inr (x, y)) e =
    inr (omega (arith, a, b, d, x, y, e), omega (arith, a, b, d, x, y, e))
capped_more value number byte digit after next (inr (a, b)) d (inl (x, y)) e = absurd (omega (arith, a, b, d, x, y, e))
capped_more value number byte digit after next (inr (a, b)) d (inr (x, y)) e =
    inr (omega (arith, a, b, d, x, y, e), omega (arith, a, b, d, x, y, e))

pub capped_sum : (v w a b after : ℕ) → IsCapped v a → IsCapped w b → IsCapped after (v + w) →
    IsCapped after (a + b)
capped_sum v w a b after (inl (c, d)) (inl (e, f)) (inl (g, h)) =
    inl (omega (arith, c, d, e, f, g, h), omega (arith, c, d, e, f, g, h))
capped_sum v w a b after (inl (c, d)) (inl (e, f)) (inr (g, h)) =
    inr (omega (arith, c, d, e, f, g, h), omega (arith, c, d, e, f, g, h))
capped_sum v w a b after (inl (c, d)) (inr (e, f)) (inl (g, h)) = absurd (omega (arith, c, d, e, f, g, h))
capped_sum v w a b after (inl (c, d)) (inr (e, f)) (inr (g, h)) =
    inr (omega (arith, c, d, e, f, g, h), omega (arith, c, d, e, f, g, h))
capped_sum v w a b after (inr (c, d)) k (inl (g, h)) = absurd (omega (arith, c, d, g, h))
capped_sum v w a b after (inr (c, d)) k (inr (g, h)) = inr (omega (arith, c, d, g, h), omega (arith, c, d, g, h))

pub read_start : (text : List ℕ) → IsRead text None 0 []
read_start text = record { on = λ rest h. h; back = λ c h. (c, h, refl) }

add_group : (last : Option Bool) (text more : List ℕ) (g : Group) (rest : List Bool) →
    text ≡ group_text g ++ 44 ∷ more → Differs last g.choice → IsLength g.digits →
    IsGrouped (Some g.choice) more rest → IsGrouped last text (stretch_of g ++ rest)
add_group last text more g rest e d l h = record {
  groups = g ∷ h.groups;
  some = omega arith;
  groups_are = (d, l, h.groups_are);
  text_is =
      e ∙ (ap (λ x. group_text g ++ 44 ∷ x) h.text_is
      ∙ ap (λ x. group_text g ++ x) (sym (later_is h.groups h.some)));
  choices_are = ap (λ x. stretch_of g ++ x) h.choices_are;
}

-- what follows the first group of a grouped text
record Parted (last : Option Bool) (text : List ℕ) (c : List Bool) (g : Group) (tail : List ℕ) : Type 0 where
  groups : List Group
  groups_are : AreGroups (Some g.choice) groups
  text_is : later_text groups ≡ tail
  choices_are : c ≡ stretch_of g ++ spread groups

parted : (last : Option Bool) (text : List ℕ) (c : List Bool) (g : Group) (tail : List ℕ) →
    IsGrouped last text c → text ≡ group_text g ++ tail → IsLength g.digits →
    HasNoDigit tail → Parted last text c g tail
parted last text c g tail h e l n = by_groups h.groups h.some h.groups_are (sym h.text_is ∙ e) h.choices_are
  where
    by_groups : (gs : List Group) → 0 < length gs → AreGroups last gs →
        groups_text gs ≡ group_text g ++ tail → c ≡ spread gs → Parted last text c g tail
    by_groups [] some are same is = absurd (omega arith)
    by_groups (k ∷ ks) some are same is =
        let r = front_one k g (later_text ks) tail are.1 l (later_no_digit ks) n same in
        record {
          groups = ks;
          groups_are = subst (λ b. AreGroups (Some b) ks) r.0 are.2;
          text_is = r.2;
          choices_are = is ∙ ap (λ x. x ++ spread ks) (same_stretch k g r.0 r.1);
        }

comma_first : (more : List ℕ) → HasNoDigit (44 ∷ more)
comma_first more h = let x : digit_value 44 ≡ 36 = refl in absurd (omega (arith, x, h))

after_comma : (last : Option Bool) (text : List ℕ) (c : List Bool) (g : Group) (more : List ℕ) →
    Parted last text c g (44 ∷ more) →
    (rest : List Bool) × IsGrouped (Some g.choice) more rest × (c ≡ stretch_of g ++ rest)
after_comma last text c g more h = by_groups h.groups h.groups_are h.text_is h.choices_are
  where
    by_groups : (gs : List Group) → AreGroups (Some g.choice) gs → later_text gs ≡ 44 ∷ more →
        c ≡ stretch_of g ++ spread gs →
        (rest : List Bool) × IsGrouped (Some g.choice) more rest × (c ≡ stretch_of g ++ rest)
    by_groups [] are is e = cc
    by_groups (k ∷ ks) are is e = (
      spread (k ∷ ks),
      record {
        groups = k ∷ ks;
        some = omega arith;
        groups_are = are;
        text_is = sym (ap (drop 1) is);
        choices_are = refl;
      },
      e,
    )

-- one group and its comma were read
pub read_on : (text : List ℕ) (last : Option Bool) (at after : ℕ) (front : List Bool) (g : Group)
    (more : List ℕ) → IsRead text last at front → drop at text ≡ group_text g ++ 44 ∷ more →
    Differs last g.choice → IsLength g.digits → drop after text ≡ more →
    IsRead text (Some g.choice) after (front ++ stretch_of g)
read_on text last at after front g more r e d l f = record {
  on = λ rest h. subst (λ x. IsGrouped None text x) (sym (append_assoc front (stretch_of g) rest))
      (r.on (stretch_of g ++ rest)
      (add_group last (drop at text) more g rest e d l (subst (λ x. IsGrouped (Some g.choice) x rest) f h)));
  back = λ c h.
      let b = r.back c h in
      let q =
      after_comma last (drop at text) b.0 g more
      (parted last (drop at text) b.0 g (44 ∷ more) b.1 e l (comma_first more)) in (
        q.0,
        subst (λ x. IsGrouped (Some g.choice) x q.0) (sym f) q.1,
        b.2 ∙ (ap (λ x. front ++ x) q.2 ∙ sym (append_assoc front (stretch_of g) q.0)),
      );
}

-- the last group was read
pub read_end : (text : List ℕ) (last : Option Bool) (at : ℕ) (front : List Bool) (g : Group) →
    IsRead text last at front → drop at text ≡ group_text g ++ [] → Differs last g.choice →
    IsLength g.digits → IsGrouped None text (front ++ stretch_of g)
read_end text last at front g r e d l = r.on (stretch_of g) (record {
  groups = g ∷ [];
  some = omega arith;
  groups_are = (d, l, tt);
  text_is = e;
  choices_are = sym (append-nil (stretch_of g));
})

-- no group stands there
pub no_front : (text : List ℕ) (last : Option Bool) (at : ℕ) (front : List Bool) → IsRead text last at front →
    ((g : Group) (tail : List ℕ) → Differs last g.choice → IsLength g.digits → HasNoDigit tail →
    drop at text ≡ group_text g ++ tail → ⊥) →
    (c : List Bool) → IsGrouped None text c → ⊥
no_front text last at front r f c h = let b = r.back c h in by_groups b.1.groups b.1.some b.1.groups_are b.1.text_is
  where
    by_groups : (gs : List Group) → 0 < length gs → AreGroups last gs → drop at text ≡ groups_text gs → ⊥
    by_groups [] some are is = absurd (omega arith)
    by_groups (k ∷ ks) some are is = f k (later_text ks) are.0 are.1 (later_no_digit ks) is

-- no comma stands after a group, and more does
pub no_comma : (text : List ℕ) (last : Option Bool) (at : ℕ) (front : List Bool) (g : Group) (b : ℕ)
    (more : List ℕ) → IsRead text last at front → drop at text ≡ group_text g ++ b ∷ more →
    IsLength g.digits → HasNoDigit (b ∷ more) → b ≢ 44 → (c : List Bool) → IsGrouped None text c → ⊥
no_comma text last at front g b more r e l n other c h =
    let q = r.back c h in
    let p = parted last (drop at text) q.0 g (b ∷ more) q.1 e l n in
    by_groups p.groups p.text_is
  where
    by_groups : (gs : List Group) → later_text gs ≡ b ∷ more → ⊥
    by_groups [] is = cc
    by_groups (k ∷ ks) is = other (sym (ap (λ l. get_or l 0 0) is))

-- where a group and a comma, or the end, must follow
pub comma_follows : (text : List ℕ) (last : Option Bool) (at : ℕ) (front : List Bool) (g : Group) (b : ℕ)
    (more : List ℕ) → IsRead text last at front → drop at text ≡ group_text g ++ b ∷ more →
    IsLength g.digits → HasNoDigit (b ∷ more) → (c : List Bool) → IsGrouped None text c → b ≡ 44
comma_follows text last at front g b more r e l n c h =
    let q = r.back c h in
    let p = parted last (drop at text) q.0 g (b ∷ more) q.1 e l n in
    by_groups p.groups p.text_is
  where
    by_groups : (gs : List Group) → later_text gs ≡ b ∷ more → b ≡ 44
    by_groups [] is = cc
    by_groups (k ∷ ks) is = sym (ap (λ l. get_or l 0 0) is)

-- how long the choices of a group can be at most
pub stretch_fits : (text : List ℕ) (last : Option Bool) (at : ℕ) (front : List Bool) (g : Group)
    (tail : List ℕ) → IsRead text last at front → drop at text ≡ group_text g ++ tail →
    IsLength g.digits → HasNoDigit tail → (c : List Bool) → IsGrouped None text c →
    digits_value 10 g.digits ≤ length c
stretch_fits text last at front g tail r e l n c h =
    let q = r.back c h in
    let p = parted last (drop at text) q.0 g tail q.1 e l n in
    let a = length-append front q.0 in
    let b = length-append (stretch_of g) (spread p.groups) in
    let d = length-replicate (digits_value 10 g.digits) g.choice in
    let x = ap length q.2 in
    let y = ap length p.choices_are in
    omega (arith, a, b, d, x, y)

pub stretch_size : (g : Group) (front : List Bool) →
    length (front ++ stretch_of g) ≡ length front + digits_value 10 g.digits
stretch_size g front =
    length-append front (stretch_of g)
    ∙ ap (λ n. length front + n) (length-replicate (digits_value 10 g.digits) g.choice)

-- what was found at the front of a text
pub front_is : (text : List ℕ) (last : Option Bool) (choice : Bool) (size count : ℕ) → 3 ≤ length text →
    get_or text 0 0 ≡ digit_of choice → get_or text 1 0 ≡ 42 →
    get_or text 2 0 ≢ 48 → Differs last choice → 0 < count → count ≤ length (drop 2 text) →
    AllDigits 10 (take count (drop 2 text)) →
    HasNoDigit (drop count (drop 2 text)) → IsCapped size (digits_value 10 (take count (drop 2 text))) →
    IsFront last text (record { choice = choice; size = size; count = count })
front_is [] last choice size count l a b d o n w ds st v = absurd (omega (arith, l))
front_is (x ∷ []) last choice size count l a b d o n w ds st v = absurd (omega (arith, l))
front_is (x ∷ y ∷ []) last choice size count l a b d o n w ds st v = absurd (omega (arith, l))
front_is (x ∷ y ∷ z ∷ rest) last choice size zero l a b d o n w ds st v = absurd (omega arith)
front_is (x ∷ y ∷ z ∷ rest) last choice size (suc k) l a b d o n w ds st v =
    let first : (48 ≤ z) × (z ≤ 57) = digit_from_value z ds.0 in
    let low = first.0 in
    let above : 48 < z = more_than z low d in
    let places : suc k + 2 ≡ suc (suc (suc k)) = omega arith in
    record {
      differs = o;
      length_is = ((omega arith, ds), above);
      size = v;
      within = omega (arith, w);
      text_is = ap (λ q. q ∷ y ∷ z ∷ rest) a ∙ (ap (λ q. digit_of choice ∷ q ∷ z ∷ rest) b
          ∙ (ap (λ q. digit_of choice ∷ 42 ∷ q) (sym (take-append-drop (suc k) (z ∷ rest)))
          ∙ ap (λ n. digit_of choice ∷ 42 ∷ (take (suc k) (z ∷ rest) ++ drop n (x ∷ y ∷ z ∷ rest)))
          (sym places)));
      stops = subst (λ n. HasNoDigit (drop n (x ∷ y ∷ z ∷ rest))) (sym places) st;
    }
  where
    more_than : (z : ℕ) → 48 ≤ z → z ≢ 48 → 48 < z
    more_than z low other = elim (eq-or-lt_of_le low) [ inl e ↦ absurd (other (sym e)) | inr e ↦ e ]

pub exact_size : (size number limit : ℕ) → IsCapped size number → number ≤ limit → limit < 2 ^ 32 →
    size ≡ number
exact_size size number limit (inl (a, b)) le lt = b
exact_size size number limit (inr (a, b)) le lt = absurd (omega (arith, a, le, lt))

pub small_size : (size number limit : ℕ) → IsCapped size number → size ≤ limit → limit < 2 ^ 32 →
    number ≤ limit
small_size size number limit (inl (a, b)) le lt = omega (arith, b, le)
small_size size number limit (inr (a, b)) le lt = absurd (omega (arith, b, le, lt))

pub great_size : (size number limit : ℕ) → IsCapped size number → limit < size → limit < number
great_size size number limit (inl (a, b)) lt = omega (arith, b, lt)
great_size size number limit (inr (a, b)) lt = omega (arith, a, b, lt)

-- the choices after they were filled up with a group's stretch
pub filled : (front choices : List Bool) (g : Group) (size len total : ℕ) →
    choices ≡ take total front ++ replicate (total - len) g.choice → len ≡ length front → total ≡ len + size →
    size ≡ digits_value 10 g.digits → choices ≡ front ++ stretch_of g
filled front choices g size len total e n t f =
    let more : total - len ≡ size = omega (arith, t) in
    e ∙ (ap (λ x. x ++ replicate (total - len) g.choice) (take_all total front (omega (arith, n, t)))
    ∙ ap (λ k. front ++ replicate k g.choice) (more ∙ f))

-- the group at a place of a text, which ends at the place `after`
pub record HasGroup (text : List ℕ) (last : Option Bool) (at after size : ℕ) (g : Group) : Type 0 where
  pub differs : Differs last g.choice
  pub length_is : IsLength g.digits
  pub size_is : IsCapped size (digits_value 10 g.digits)
  pub text_is : drop at text ≡ group_text g ++ drop after text
  pub stops : HasNoDigit (drop after text)

pub group_at : (text : List ℕ) (last : Option Bool) (at : ℕ) (f : Front) →
    IsFront last (take (length text - at) (drop at text)) f →
    HasGroup text last at (at + (f.count + 2)) f.size (front_group f (drop at text))
group_at text last at f front =
    let h = subst (λ t. IsFront last t f) (take_rest text at) front in
    record {
      differs = h.differs;
      length_is = h.length_is;
      size_is = h.size;
      text_is = h.text_is ∙ ap (λ x. group_text (front_group f (drop at text)) ++ x) (drop_twice at (f.count + 2) text);
      stops = subst HasNoDigit (drop_twice at (f.count + 2) text) h.stops;
    }

-- behind the choices that were read before it
module _ {text : List ℕ} {last : Option Bool} {at after size : ℕ} {g : Group} {front : List Bool}
    (h : HasGroup text last at after size g) (r : IsRead text last at front) where
  pub group_ends : after ≡ length text → IsGrouped None text (front ++ stretch_of g)
  group_ends e =
      read_end text last at front g r
      (h.text_is ∙ ap (λ x. group_text g ++ x) (ap (λ n. drop n text) e ∙ drop-length text)) h.differs h.length_is

  text_split : after < length text → drop at text ≡ group_text g ++ get_or text after 0 ∷ drop (after + 1) text
  text_split low = h.text_is ∙ ap (λ x. group_text g ++ x) (drop_more text after 0 low)

  stops_split : after < length text → HasNoDigit (get_or text after 0 ∷ drop (after + 1) text)
  stops_split low = subst HasNoDigit (drop_more text after 0 low) h.stops

  pub group_goes_on : after < length text → get_or text after 0 ≡ 44 →
      IsRead text (Some g.choice) (after + 1) (front ++ stretch_of g)
  group_goes_on low comma =
      read_on text last at (after + 1) front g (drop (after + 1) text) r
      (text_split low ∙ ap (λ b. group_text g ++ b ∷ drop (after + 1) text) comma) h.differs h.length_is refl

  pub group_is_last : after < length text → get_or text after 0 ≢ 44 → (c : List Bool) → IsGrouped None text c → ⊥
  group_is_last low other =
      no_comma text last at front g (get_or text after 0) (drop (after + 1) text) r (text_split low) h.length_is
      (stops_split low) other

  pub comma_behind : after < length text → (c : List Bool) → IsGrouped None text c → get_or text after 0 ≡ 44
  comma_behind low =
      comma_follows text last at front g (get_or text after 0) (drop (after + 1) text) r (text_split low) h.length_is
      (stops_split low)

  pub size_exact : (c : List Bool) → IsGrouped None text c → length c < 2 ^ 32 → size ≡ digits_value 10 g.digits
  size_exact c is few =
      exact_size size (digits_value 10 g.digits) (length c) h.size_is
      (stretch_fits text last at front g (drop after text) r h.text_is h.length_is h.stops c is) few
