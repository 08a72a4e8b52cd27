-- Where the label is that a body uses, and its significant digits there.
use Rattle.std.proofs.Common.{◌≡◌, ℕ, zero, suc, ◌+◌, ◌-◌, ◌<◌, ◌≤◌, min, Bool, true, false, List, [], ◌∷◌, ◌++◌}
use Rattle.std.proofs.Common.{length, drop, refl, sym, ap, subst, ◌∙◌, arith, cond, Option, Some, None, inl, inr, ◌⊎◌}
use Rattle.std.proofs.Common.{option_and_then, option_map, slice_range, drop_of_length-le, nat_eq, add-one}
use Rattle.std.specs.Prelude.{codes}
use Rattle.std.specs.Borrow.{Bor}
use Rattle.std.specs.List.{list_all}
use Rattle.std.proofs.lemmas.Bool.{cases_lt, false≢true}
use Rattle.std.proofs.lemmas.Bool.Decides.{nat_tests}
use Rattle.ick_syntax.specs.declared.tree.NameKind.{NameKind}
use Rattle.ick_source.specs.declared.lead.Lead.{Lead}
use Rattle.ick_source.specs.declared.lead.Lead.TheVariants.{Spot, Array, Hash, Group, Unary, Binary, Other}
use Rattle.ick_source.specs.declared.position.Position.{Position}
use Rattle.ick_source.specs.declared.wanted.Wanted.TheVariants.{Body}
use Rattle.ick_source.specs.declared.verb.Verb.{Verb}
use Rattle.ick_source.specs.declared.verb.Verb.TheVariants.{Forget, Resume, Stash, Retrieve, Ignore, Remember, Abstain}
use Rattle.ick_source.specs.declared.verb.Verb.TheVariants.{Reinstate, Give, Write, Read}
use Rattle.ick_source.specs.Boundaries.{IsOpening, unlabelled, labelled, please_do, only_please, only_do}
use Rattle.ick_source.specs.BodyGrammar.{bodies, body_by, worded_by, calls, labels, verbs, after, abstained_by, reinstated_by}
use Rattle.ick_source.specs.BodyGrammar.{scalar_bodies, array_bodies, array_by, all_verbs}
use Rattle.ick_source.specs.Bytes.{byte, IsGap, IsNumberIn}
use Rattle.ick_source.specs.Digits.{significant, Spells, SpellsSome}
use Rattle.ick_source.specs.Grammar.{stands, among, pick, word, yields, sequence}
use Rattle.ick_source.specs.Position.{characters, characters_of, left_at, past_white}
use Rattle.ick_source.specs.Reading.{digits_of, value_after}
use Rattle.ick_source.specs.Statements.{Ends, recognised, unrecognised}
use Rattle.ick_source.specs.Token.{is_digit, value_of_digits, begins_number, IsNumber, IsWord}
use Rattle.ick_source.specs.UsedLabels.{label_in, IsLabelAt, IsLabelAfter, IsLabelAfterTwo, HasItsLabel, UsesAt}
use Rattle.ick_source.specs.Verb.{verb_word}
use Rattle.ick_syntax.specs.BodyTree.{BodyTree, clamped_body, calculate, dimension, next, forget, resume, stash}
use Rattle.ick_syntax.specs.BodyTree.{retrieve, ignore, remember, abstain_label, abstain_kinds, reinstate_label, reinstate_kinds}
use Rattle.ick_syntax.specs.BodyTree.{give_up, write_in, read_out}
use Rattle.ick_source.proofs.BodyByteReadings.{from_byte}
use Rattle.ick_source.proofs.ByteLemmas.{differ, gap_unique, digit_inside}
use Rattle.ick_source.proofs.DigitLemmas.{digit_more, digits_between, spells}
use Rattle.ick_source.proofs.NumberLemmas.{digits-all, number-begins, number-value, value-is}

label_at : (from to : List ℕ) (n : ℕ) → stands labels from to n → IsLabelAt from n
unfolding stands labels
label_at from to n s =
    subst (IsLabelAt from) s.3.3.3.1
    (record { inside = s.0; after = s.3.0; opened = s.2; number = s.3.2 })

call_at : (from to : List ℕ) (b : BodyTree) → stands calls from to b → HasItsLabel from b
unfolding stands calls
call_at from to b s = subst (HasItsLabel from) s.3.3.1 (label_at from s.0 s.1 s.2)

-- the word of the verb that is there
verb_at : (vs : List Verb) (from to : List ℕ) (v : Verb) → stands (among Body verb_word vs) from to v →
    IsWord (verb_word v) from to
unfolding stands among
verb_at [] from to v s = absurd s
verb_at (x ∷ vs) from to v s = by_test s.1 s.0 s.2.1 s.3 (λ mid p. verb_at vs mid to v p)
  where
    by_test : (t : Bool) (mid : List ℕ) → from ≡ mid →
        stands (pick t (sequence (word (verb_word x)) (λ _. yields x)) (among Body verb_word vs)) mid to v →
        ((mid : List ℕ) → stands (among Body verb_word vs) mid to v → IsWord (verb_word v) mid to) → IsWord (verb_word v) from to
    by_test true mid e s later =
        subst (λ u. IsWord (verb_word u) from to) s.3.1
        (subst (λ l. IsWord (verb_word x) from l) s.3.0 (subst (λ l. IsWord (verb_word x) l s.0) (sym e) s.2))
    by_test false mid e s later = subst (λ l. IsWord (verb_word v) l to) (sym e) (later mid s)

-- the label behind ABSTAIN FROM, and behind REINSTATE
abbrev LabelBehind : List ℕ → BodyTree → Type 0
LabelBehind from (abstain_label n) = IsLabelAt from n
LabelBehind from (reinstate_label n) = IsLabelAt from n
LabelBehind from _ = Unit {0}

abstained : (t : Bool) (from to : List ℕ) (b : BodyTree) → stands (abstained_by t) from to b → LabelBehind from b
unfolding stands
abstained true from to b s = subst (LabelBehind from) s.3.1 (label_at from s.0 s.1 s.2)
abstained false from to b s = subst (LabelBehind from) s.3.1 tt

reinstated : (t : Bool) (from to : List ℕ) (b : BodyTree) → stands (reinstated_by t) from to b → LabelBehind from b
unfolding stands
reinstated true from to b s = subst (LabelBehind from) s.3.1 (label_at from s.0 s.1 s.2)
reinstated false from to b s = subst (LabelBehind from) s.3.1 tt

-- what a body of these verbs is
abbrev IsAbstaining : BodyTree → Type 0
IsAbstaining (abstain_label n) = Unit {0}
IsAbstaining (abstain_kinds gs) = Unit {0}
IsAbstaining _ = ⊥

abbrev IsReinstating : BodyTree → Type 0
IsReinstating (reinstate_label n) = Unit {0}
IsReinstating (reinstate_kinds gs) = Unit {0}
IsReinstating _ = ⊥

abstaining : (t : Bool) (from to : List ℕ) (b : BodyTree) → stands (abstained_by t) from to b → IsAbstaining b
unfolding stands
abstaining true from to b s = subst IsAbstaining s.3.1 tt
abstaining false from to b s = subst IsAbstaining s.3.1 tt

reinstating : (t : Bool) (from to : List ℕ) (b : BodyTree) → stands (reinstated_by t) from to b → IsReinstating b
unfolding stands
reinstating true from to b s = subst IsReinstating s.3.1 tt
reinstating false from to b s = subst IsReinstating s.3.1 tt

abstained_label : (start from behind : List ℕ) (b : BodyTree) → IsWord (codes "ABSTAIN") start from →
    IsWord (codes "FROM") from behind → LabelBehind behind b → IsAbstaining b → HasItsLabel start b
abstained_label start from behind (abstain_label n) v w l a =
    record { behind = from; spelled = v; label = record { behind = behind; spelled = w; label = l } }
abstained_label start from behind (abstain_kinds gs) v w l a = tt
abstained_label start from behind _ v w l a = absurd a

reinstated_label : (start from : List ℕ) (b : BodyTree) → IsWord (codes "REINSTATE") start from → LabelBehind from b →
    IsReinstating b → HasItsLabel start b
reinstated_label start from (reinstate_label n) v l r = record { behind = from; spelled = v; label = l }
reinstated_label start from (reinstate_kinds gs) v l r = tt
reinstated_label start from _ v l r = absurd r

action_at : (v : Verb) (start from to : List ℕ) (b : BodyTree) → IsWord (verb_word v) start from →
    stands (after v) from to b → HasItsLabel start b
unfolding stands
action_at Forget start from to b w s = subst (HasItsLabel start) s.3.1 tt
action_at Resume start from to b w s = subst (HasItsLabel start) s.3.1 tt
action_at Stash start from to b w s = subst (HasItsLabel start) s.3.1 tt
action_at Retrieve start from to b w s = subst (HasItsLabel start) s.3.1 tt
action_at Ignore start from to b w s = subst (HasItsLabel start) s.3.1 tt
action_at Remember start from to b w s = subst (HasItsLabel start) s.3.1 tt
action_at Abstain start from to b w s =
    let t = s.3.1 in
    abstained_label start from s.0 b w s.2
    (subst (λ l. LabelBehind l b) (sym s.3.2.1) (abstained t s.3.0 to b s.3.3)) (abstaining t s.3.0 to b s.3.3)
action_at Reinstate start from to b w s =
    reinstated_label start from b w
    (subst (λ l. LabelBehind l b) (sym s.2.1) (reinstated s.1 s.0 to b s.3)) (reinstating s.1 s.0 to b s.3)
action_at Give start from to b w s = subst (HasItsLabel start) s.3.1 tt
action_at Write start from to b w s = subst (HasItsLabel start) s.3.3.1 tt
action_at Read start from to b w s = subst (HasItsLabel start) s.3.3.1 tt

worded_at : (t : Bool) (from to : List ℕ) (b : BodyTree) → stands (worded_by t) from to b → HasItsLabel from b
unfolding stands verbs
worded_at true from to b s = call_at from to b s
worded_at false from to b s = action_at s.1 from s.0 to b (verb_at all_verbs from s.0 s.1 s.2) s.3

scalar_at : (start : List ℕ) (k : NameKind) (from to : List ℕ) (b : BodyTree) → stands (scalar_bodies k) from to b →
    HasItsLabel start b
unfolding stands scalar_bodies
scalar_at start k from to b s = subst (HasItsLabel start) s.3.3.1 tt

array_at : (start : List ℕ) (k : NameKind) (from to : List ℕ) (b : BodyTree) → stands (array_bodies k) from to b →
    HasItsLabel start b
unfolding stands array_bodies
array_at start k from to b s = by_sub s.3.1 s.3.0 s.3.3
  where
    by_sub : (t : Bool) (mid : List ℕ) → stands (array_by s.1 t) mid to b → HasItsLabel start b
    by_sub true mid s = subst (HasItsLabel start) s.3.3.1 tt
    by_sub false mid s = subst (HasItsLabel start) s.3.3.1 tt

other_at : (from to : List ℕ) (b : BodyTree) → stands (sequence (Rattle.ick_source.specs.Grammar.looks (codes "(")) worded_by) from to b →
    HasItsLabel from b
unfolding stands
other_at from to b s = subst (λ l. HasItsLabel l b) (sym s.2.1) (worded_at s.1 s.0 to b s.3)

lead_at : (l : Lead) (from to : List ℕ) (b : BodyTree) → stands (body_by l) from to b → HasItsLabel from b
unfolding stands
lead_at (Spot k) from to b s = scalar_at from k s.0 to b s.3
lead_at (Array k) from to b s = array_at from k s.0 to b s.3
lead_at Hash from to b s = other_at from to b s
lead_at (Group q) from to b s = other_at from to b s
lead_at (Unary o) from to b s = other_at from to b s
lead_at (Binary o) from to b s = other_at from to b s
lead_at Other from to b s = other_at from to b s

pub body_label : (from to : List ℕ) (b : BodyTree) → stands bodies from to b → HasItsLabel from b
unfolding stands bodies
body_label from to b s = subst (λ l. HasItsLabel l b) (sym s.2.1) (lead_at s.1 s.0 to b s.3)

-- digits are no part of a !, so they are the same in bytes and in characters
characters_digits : (l : List ℕ) → digits_of (characters l) ≡ digits_of l
unfolding characters digits_of is_digit
characters_digits [] = refl
characters_digits (b ∷ l) = by_bang b l (nat_eq b 33) refl (characters_digits l)
  where
    by_bang : (b : ℕ) (l : List ℕ) (t : Bool) → nat_eq b 33 ≡ t → digits_of (characters l) ≡ digits_of l →
        digits_of (cond t (39 ∷ 46 ∷ []) (b ∷ []) ++ characters l) ≡ digits_of (b ∷ l)
    by_bang b l true e h = let same : b ≡ 33 = grind (arith, nat_tests) in rw same refl
    by_bang b l false e h = rw h refl

-- the significant digits of a number behind white bytes, at its position
pub spelled_here : (text : List ℕ) (p : Position) (from after : List ℕ) (n : ℕ) → IsNumber from after n →
    left_at text p ≡ past_white from →
    Spells (significant (digits_of (drop (min p.at (length text)) text))) n
unfolding left_at is_digit
spelled_here text p from after n number here = by_between p.between refl
  where
    dropped : drop (min p.at (length text)) text ≡ drop p.at text
    dropped = elim (cases_lt p.at (length text)) [
      | inl lt ↦ let e : min p.at (length text) ≡ p.at = omega (arith, lt) in rw e refl
      | inr le ↦ let e : min p.at (length text) ≡ length text = omega (arith, le) in
          rw (e, drop_of_length-le text le) (drop_of_length-le text (omega arith))
    ]

    between : p.between ≡ true → left_at text p ≡ 46 ∷ characters (drop p.at text)
    between e = rw e refl

    before : p.between ≡ false → left_at text p ≡ characters (drop p.at text)
    before e = rw e refl

    no_digit : begins_number (46 ∷ characters (drop p.at text)) ≡ true → ⊥
    no_digit e = false≢true e

    by_between : (t : Bool) → p.between ≡ t → Spells (significant (digits_of (drop (min p.at (length text)) text))) n
    by_between true e = absurd (no_digit (ap begins_number (sym (between e) ∙ here) ∙ number-begins number))
    by_between false e =
        let digits : digits_of (past_white from) ≡ digits_of (drop p.at text) =
        ap digits_of (sym here ∙ before e) ∙ characters_digits (drop p.at text) in
        let value : value_of_digits (digits_of (drop p.at text)) ≡ n =
        ap value_of_digits (sym digits) ∙ sym (value-is (digits_of (past_white from))) ∙ sym (number-value number) in
        rw dropped (subst (Spells (significant (digits_of (drop p.at text)))) value
        (spells (digits_of (drop p.at text)) (digits-all (drop p.at text))))

no_digit : (b : Bool) → (b ≡ true → ⊥) → b ≡ false
no_digit true n = absurd (n refl)
no_digit false n = refl

-- the significant digits of a number between two bytes
pub number_spelled_in : (s : List ℕ) (i j n : ℕ) → IsNumberIn s i j n → Spells (significant (digits_of (drop i s))) n
number_spelled_in s i j n g =
    let order : i + (j - i) ≡ j = omega (arith, g.some) in
    let all = subst (λ k. slice_range s i k ++ digits_of (drop k s) ≡ digits_of (drop i s)) order
    (upto (j - i) (omega (arith, g.some))) in
    let range = digits_between s i j (no_digit (is_digit (byte s j)) g.stops) all in
    subst (Spells (significant (digits_of (drop i s)))) (ap value_of_digits (sym range) ∙ sym g.value)
    (spells (digits_of (drop i s)) (digits-all (drop i s)))
  where
    upto : (k : ℕ) → i + k ≤ j → slice_range s i (i + k) ++ digits_of (drop (i + k) s) ≡ digits_of (drop i s)
    upto zero le = let none : i + zero ≡ i = omega arith in let nothing : i - i ≡ 0 = omega arith in
        rw (none, nothing) refl
    upto (suc k) le =
        let digit = g.digits (i + k) (omega arith) (omega (arith, le)) in
        let more : i + suc k ≡ (i + k) + 1 = omega arith in
        rw more (digit_more s i (i + k) (omega arith) (digit_inside s (i + k) digit) digit (upto k (omega (arith, le))))

pub head_none : {s : List ℕ} {at to : ℕ} {label : Option ℕ} {polite : Bool} → (byte s at ≡ 40 → ⊥) →
    IsOpening s at to label polite → SpellsSome None label
head_none n (unlabelled i) = tt
head_none n (labelled l g i) = absurd (n l.opens)

pub head_some : {s : List ℕ} {at to first : ℕ} {label : Option ℕ} {polite : Bool} (w : Bor (List ℕ)) →
    byte s at ≡ 40 → IsGap s (at + 1) first → w.now ≡ significant (digits_of (drop first s)) →
    IsOpening s at to label polite → SpellsSome (Some w) label
head_some {s} w e g same (unlabelled (please_do x h y)) = differ s 80 40 x.0 e (λ z. omega (arith, z)) refl
head_some {s} w e g same (unlabelled (only_please x h y)) = differ s 80 40 x.0 e (λ z. omega (arith, z)) refl
head_some {s} w e g same (unlabelled (only_do x)) = differ s 68 40 x.0 e (λ z. omega (arith, z)) refl
head_some {s} w e g same (labelled {number = number} l h i) =
    let first = gap_unique l.before g refl in
    subst (λ d. Spells d number) (sym same)
    (subst (λ k. Spells (significant (digits_of (drop k s))) number) first
    (number_spelled_in s l.first l.last number l.digits))

-- the significant digits of the label that a body uses
pub uses_spelled : (text : List ℕ) (begin : ℕ) (p q number : Position) (w : Bor (List ℕ)) (tree : BodyTree) →
    UsesAt (left_at text p) tree → ((to : List ℕ) → IsWord (codes "(") (left_at text p) to → left_at text q ≡ to) →
    left_at text number ≡ past_white (left_at text q) →
    w.now ≡ significant (digits_of (drop (min number.at (length text)) text)) → SpellsSome (Some w) (label_in tree)
uses_spelled text begin p q number w tree u opened white same =
    let inside = opened u.there.inside u.there.opened in
    let here : left_at text number ≡ past_white u.there.inside = white ∙ ap past_white inside in
    subst (λ x. SpellsSome (Some w) x) (sym u.uses)
    (subst (λ d. Spells d u.label) (sym same) (spelled_here text number u.there.inside u.there.after u.label u.there.number here))

pub ends_label : {text : List ℕ} {head begin to : ℕ} {tree : BodyTree} → Ends text head begin to (Some tree) →
    HasItsLabel (left_at text (record { at = begin; between = false })) tree
ends_label {text} {begin = begin} {tree = tree} (recognised r) =
    subst (λ l. HasItsLabel l tree) (sym (from_byte text begin)) (body_label _ _ tree r.body.is_body)

-- no label, if the body uses none
pub used_nothing : {text : List ℕ} {head begin to : ℕ} {tree seen : Option BodyTree} → Ends text head begin to tree →
    seen ≡ option_map clamped_body tree →
    ((t : BodyTree) → HasItsLabel (left_at text (record { at = begin; between = false })) t → seen ≡ Some (clamped_body t) →
    label_in t ≡ None) → SpellsSome None (option_and_then label_in tree)
used_nothing (unrecognised n b) e none = tt
used_nothing {head = head} {tree = Some t} (recognised r) e none =
    subst (SpellsSome None) (sym (none t (ends_label {head = head} (recognised r)) e)) tt

-- the label, if the body uses one
pub used_something : {text : List ℕ} {head begin to : ℕ} {tree seen : Option BodyTree} (w : Bor (List ℕ)) →
    Ends text head begin to tree → seen ≡ option_map clamped_body tree → (seen ≡ None → ⊥) →
    ((t : BodyTree) → HasItsLabel (left_at text (record { at = begin; between = false })) t → seen ≡ Some (clamped_body t) →
    SpellsSome (Some w) (label_in t)) → SpellsSome (Some w) (option_and_then label_in tree)
used_something w (unrecognised n b) e some each = absurd (some e)
used_something {head = head} {tree = Some t} w (recognised r) e some each =
    each t (ends_label {head = head} (recognised r)) e
