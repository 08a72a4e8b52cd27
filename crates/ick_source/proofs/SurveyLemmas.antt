-- What the survey of statements decides.
use Rattle.std.proofs.Common.{◌≡◌, ℕ, zero, suc, ◌+◌, ◌/◌, ◌<◌, ◌≤◌, inl, inr, ◌⊎◌, Bool, true, false, not, List, [], ◌∷◌, length}
use Rattle.std.proofs.Common.{slice_get, Option, Some, None, option_and_then, option_map, refl, sym, ap, subst, ◌∙◌, arith, cond, add-one, IsTrue}
use Rattle.std.proofs.lemmas.Bool.{cases_order, false≢true}
use Rattle.std.proofs.lemmas.Map.Text.{btree_map_updates_str}
use Rattle.std.proofs.lemmas.Slice.Eq.{bytes_eq-Decides}
use Rattle.std.specs.BTreeMap.{BTreeMap, UpdatesBy}
use Rattle.std.specs.Cmp.Lexicographic.{slice_cmp}
use Rattle.std.specs.Map.{update}
use Rattle.std.specs.Ordering.{nat_cmp}
use Rattle.std.specs.Borrow.{Bor}
use Rattle.std.specs.Str.{bytes_eq}
use Rattle.ick_source.specs.declared.seen.Seen.{Seen}
use Rattle.ick_source.specs.declared.survey.Survey.{Survey}
use Rattle.ick_source.specs.Digits.{Spells, SpellsSome}
use Rattle.ick_source.specs.Ranges.{IsFirst}
use Rattle.ick_source.specs.Seen.{Sees, SeesAll}
use Rattle.ick_source.specs.Surveys.{Tells, number_at, AreFirstLabels, Any, Surveys}
use Rattle.ick_source.specs.UsedLabels.{label_in}
use Rattle.ick_syntax.specs.BodyTree.{BodyTree, clamped_body, calculate, dimension, next, forget, resume, stash, retrieve}
use Rattle.ick_syntax.specs.BodyTree.{ignore, remember, abstain_label, abstain_kinds, reinstate_label, reinstate_kinds}
use Rattle.ick_syntax.specs.BodyTree.{give_up, write_in, read_out}
use Rattle.ick_syntax.specs.ProgramFaults.{HoldsAt, HasLabel, IsSameLabelAt, IsLostAt, IsImpoliteAt, IsFawningAt, used_label}
use Rattle.ick_syntax.specs.StatementTree.{StatementTree, polite_in}
use Rattle.ick_syntax.specs.declared.labels.LabelUse.{LabelUse}
use Rattle.ick_syntax.specs.declared.labels.LabelUse.TheVariants.{Next, Abstain}
use Rattle.ick_source.proofs.DigitLemmas.{one_spelled, one_spelling}
use Rattle.ick_source.proofs.LabelLemmas.{HoldsAt-shows, HoldsAt-stands}
use Rattle.ick_source.proofs.RefusalLemmas.{HoldsAt-inside}
use Rattle.ick_source.proofs.SeenLemmas.{Found, found_at, zip_long}

abbrev pub UpTo : ℕ → ℕ → Type 0
UpTo i m = m ≤ i

kept : (P : ℕ → Type 0) (i n : ℕ) → IsFirst (λ m. (m ≤ i) × P m) (Some n) → IsFirst (λ m. (m ≤ i + 1) × P m) (Some n)
kept P i n h =
    let le : n ≤ i = h.0.0 in
    ((omega (arith, le), h.0.1), λ m lt p. h.1 m lt (omega (arith, lt, le), p.1))

here : (P : ℕ → Type 0) (i : ℕ) → IsFirst (λ m. (m ≤ i) × P m) None → P (i + 1) →
    IsFirst (λ m. (m ≤ i + 1) × P m) (Some (i + 1))
here P i h p = ((omega arith, p), λ m lt q. h m (omega (arith, lt), q.1))

nowhere : (P : ℕ → Type 0) (i : ℕ) → IsFirst (λ m. (m ≤ i) × P m) None → (P (i + 1) → ⊥) →
    IsFirst (λ m. (m ≤ i + 1) × P m) None
nowhere P i h n = λ m q. elim (cases_order m (i + 1)) [
  | inr (inl lt) ↦ h m (omega (arith, lt), q.1)
  | inr (inr gt) ↦ (let le = q.0 in omega (arith, gt, le))
  | inl same ↦ n (subst P same q.1)
]

-- the first one stays if the next statement is none or the first one is known
stays : (P : ℕ → Type 0) (i : ℕ) (o : Option ℕ) → IsFirst (λ m. (m ≤ i) × P m) o → (o ≡ None → P (i + 1) → ⊥) →
    IsFirst (λ m. (m ≤ i + 1) × P m) o
stays P i None h n = nowhere P i h (n refl)
stays P i (Some k) h n = kept P i k h

pub record SpelledLabel (w : Bor (List ℕ)) (label : Option ℕ) : Type 0 where
  pub number : ℕ
  pub is : label ≡ Some number
  pub spells : Spells w.now number

pub spelled_label : (w : Bor (List ℕ)) (label : Option ℕ) → SpellsSome (Some w) label → SpelledLabel w label
spelled_label w None s = absurd s
spelled_label w (Some n) s = record { number = n; is = refl; spells = s }

pub no_label : (label : Option ℕ) → SpellsSome None label → label ≡ None
no_label None s = refl
no_label (Some n) s = absurd s

some_one : {A : Type 0} {a b : A} → Some a ≡ Some b → a ≡ b
some_one e = cc

none_some : {A : Type 0} {a : A} → None ≡ Some a → ⊥
none_some e = absurd (cc)

pub labels_start : (trees : List StatementTree) (labels : BTreeMap (Bor (List ℕ)) ℕ) → labels.entries ≡ [] →
    AreFirstLabels (UpTo 0) trees labels
labels_start trees labels e = λ digits label s. rw e (λ m h. by_zero m label h.0 h.1)
  where
    by_zero : (m label : ℕ) → m ≤ 0 → HoldsAt (HasLabel label) trees m → ⊥
    by_zero zero label le h = h
    by_zero (suc m) label le h = absurd (omega (arith, le))

module _ (trees : List StatementTree) (i : ℕ) (t : StatementTree) (labels : BTreeMap (Bor (List ℕ)) ℕ)
    (first : AreFirstLabels (UpTo i) trees labels) (there : slice_get trees i ≡ Some t) where
  shown : (label : ℕ) → HoldsAt (HasLabel label) trees (i + 1) → t.label ≡ Some label
  shown label h = HoldsAt-shows (HasLabel label) trees i t there h

  pub labels_pass : SpellsSome None t.label → AreFirstLabels (UpTo (i + 1)) trees labels
  labels_pass s = λ digits label p.
      stays (HoldsAt (HasLabel label) trees) i (number_at labels digits) (first digits label p)
      (λ none h. none_some (sym (no_label t.label s) ∙ shown label h))

  pub labels_known : (w : Bor (List ℕ)) → SpellsSome (Some w) t.label → (number_at labels w.now ≡ None → ⊥) →
      AreFirstLabels (UpTo (i + 1)) trees labels
  labels_known w s known = λ digits label p.
      let own = spelled_label w t.label s in
      stays (HoldsAt (HasLabel label) trees) i (number_at labels digits) (first digits label p)
      (λ none h.
      let number : own.number ≡ label = some_one (sym own.is ∙ shown label h) in
      let same = one_spelling w.now digits own.number label own.spells p number in
      known (ap (number_at labels) same ∙ none))

  pub labels_added : (w : Bor (List ℕ)) (new : BTreeMap (Bor (List ℕ)) ℕ) (number : ℕ) → SpellsSome (Some w) t.label →
      number_at labels w.now ≡ None → number ≡ i + 1 →
      ((digits : List ℕ) → number_at new digits ≡ update bytes_eq (number_at labels) w.now (Some number) digits) →
      AreFirstLabels (UpTo (i + 1)) trees new
  labels_added w new number s none e updated = λ digits label p.
      subst (IsFirst (λ m. (m ≤ i + 1) × HoldsAt (HasLabel label) trees m)) (sym (updated digits))
      (by_test digits label p (bytes_eq w.now digits) refl)
    where
      own : SpelledLabel w t.label
      own = spelled_label w t.label s

      by_test : (digits : List ℕ) (label : ℕ) → Spells digits label → (b : Bool) → bytes_eq w.now digits ≡ b →
          IsFirst (λ m. (m ≤ i + 1) × HoldsAt (HasLabel label) trees m) (cond b (Some number) (number_at labels digits))
      by_test digits label p true test =
          let same = (bytes_eq-Decides w.now digits).0 test in
          let numbers = one_spelled w.now digits own.number label own.spells p same in
          let before = subst (IsFirst (λ m. (m ≤ i) × HoldsAt (HasLabel label) trees m)) (ap (number_at labels) (sym same) ∙ none)
          (first digits label p) in
          rw e (here (HoldsAt (HasLabel label) trees) i before
          (HoldsAt-stands (HasLabel label) trees i t there (own.is ∙ ap Some numbers)))
      by_test digits label p false test =
          stays (HoldsAt (HasLabel label) trees) i (number_at labels digits) (first digits label p)
          (λ nothing h.
          let number : own.number ≡ label = some_one (sym own.is ∙ shown label h) in
          let same = one_spelling w.now digits own.number label own.spells p number in
          false≢true (sym test ∙ (bytes_eq-Decides w.now digits).1 same))

pub labels_done : (trees : List StatementTree) (i : ℕ) (labels : BTreeMap (Bor (List ℕ)) ℕ) → length trees ≤ i →
    AreFirstLabels (UpTo i) trees labels → AreFirstLabels Any trees labels
labels_done trees i labels end first = λ digits label p.
    by_some digits label (number_at labels digits) (first digits label p)
  where
    by_some : (digits : List ℕ) (label : ℕ) (o : Option ℕ) → IsFirst (λ m. (m ≤ i) × HoldsAt (HasLabel label) trees m) o →
        IsFirst (λ m. Any m × HoldsAt (HasLabel label) trees m) o
    by_some digits label None h =
        λ m q. h m (let inside = HoldsAt-inside (HasLabel label) trees m q.1 in omega (arith, inside, end), q.1)
    by_some digits label (Some n) h =
        ((tt, h.0.1), λ m lt q. h.1 m lt (let inside = HoldsAt-inside (HasLabel label) trees m q.1 in omega (arith, inside, end), q.1))

-- a test of a statement, at its place
pub tells_at : (p : StatementTree → Bool) (trees : List StatementTree) (k : ℕ) (t : StatementTree) (b : Bool) →
    slice_get trees k ≡ Some t → b ≡ p t → Tells b (HoldsAt (λ x. IsTrue (p x)) trees (k + 1))
tells_at p trees k t true there e = HoldsAt-stands (λ x. IsTrue (p x)) trees k t there (sym e)
tells_at p trees k t false there e =
    λ h. false≢true (e ∙ HoldsAt-shows (λ x. IsTrue (p x)) trees k t there h)

pub tells_true : {P : Type 0} (b : Bool) → b ≡ true → Tells b P → P
tells_true true e p = p
tells_true false e p = absurd (false≢true e)

pub tells_false : {P : Type 0} (b : Bool) → b ≡ false → Tells b P → P → ⊥
tells_false true e p = absurd (false≢true (sym e))
tells_false false e p = p

pub not_false : (b : Bool) → not b ≡ false → b ≡ true
not_false true e = refl
not_false false e = absurd (false≢true (sym e))

-- a statement is the last one by its number
pub last_moved : {number n count : ℕ} → number ≡ n → (number ≡ count) × (3 ≤ number) → (n ≡ count) × (3 ≤ n)
last_moved e p = (sym e ∙ p.0, subst (λ z. 3 ≤ z) e p.1)

pub last_back : {number n count : ℕ} → number ≡ n → (n ≡ count) × (3 ≤ n) → (number ≡ count) × (3 ≤ number)
last_back e p = (e ∙ p.0, subst (λ z. 3 ≤ z) (sym e) p.1)

pub tells_impolite : (trees : List StatementTree) (n count polite : ℕ) (last few : Bool) → length trees ≡ count →
    polite ≡ polite_in trees → (IsTrue last → (n ≡ count) × (3 ≤ n)) → ((n ≡ count) × (3 ≤ n) → IsTrue last) →
    (IsTrue few → polite < count / 5) → (polite < count / 5 → IsTrue few) → Tells (cond last few false) (IsImpoliteAt trees n)
tells_impolite trees n count polite true true e p a b c d =
    let x = a refl in
    record {
      last = x.0 ∙ sym e;
      enough = x.1;
      few = subst (λ z. z < n / 5) p (subst (λ z. polite < z / 5) (sym x.0) (c refl));
    }
tells_impolite trees n count polite true false e p a b c d =
    λ h. false≢true (d (subst (λ z. z < count / 5) (sym p) (subst (λ z. polite_in trees < z / 5) (h.last ∙ e) h.few)))
tells_impolite trees n count polite false few e p a b c d = λ h. false≢true (b (h.last ∙ e, h.enough))

pub tells_fawning : (trees : List StatementTree) (n count polite : ℕ) (last many : Bool) → length trees ≡ count →
    polite ≡ polite_in trees → (IsTrue last → (n ≡ count) × (3 ≤ n)) → ((n ≡ count) × (3 ≤ n) → IsTrue last) →
    (IsTrue many → count / 3 < polite) → (count / 3 < polite → IsTrue many) → Tells (cond last many false) (IsFawningAt trees n)
tells_fawning trees n count polite true true e p a b c d =
    let x = a refl in
    record {
      last = x.0 ∙ sym e;
      enough = x.1;
      many = subst (λ z. n / 3 < z) p (subst (λ z. z / 3 < polite) (sym x.0) (c refl));
    }
tells_fawning trees n count polite true false e p a b c d =
    λ h. false≢true (d (subst (λ z. count / 3 < z) (sym p) (subst (λ z. z / 3 < polite_in trees) (h.last ∙ e) h.many)))
tells_fawning trees n count polite false many e p a b c d = λ h. false≢true (b (h.last ∙ e, h.enough))

-- a statement with no label has none of an earlier one
pub again_none : (trees : List StatementTree) (k : ℕ) (x : Seen) → Found trees k x → x.label ≡ None →
    IsSameLabelAt trees (k + 1) → ⊥
again_none trees k x found none h =
    let same = HoldsAt-shows (HasLabel h.label) trees k found.tree found.there h.again in
    none_some (sym (no_label found.tree.label (subst (λ o. SpellsSome o found.tree.label) none found.sees.label)) ∙ same)

pub again_absent : (trees : List StatementTree) (k : ℕ) (x : Seen) (w : Bor (List ℕ))
    (labels : BTreeMap (Bor (List ℕ)) ℕ) → AreFirstLabels Any trees labels → Found trees k x → x.label ≡ Some w →
    number_at labels w.now ≡ None → IsSameLabelAt trees (k + 1) → ⊥
again_absent trees k x w labels first found is none h =
    let own = spelled_label w found.tree.label (subst (λ o. SpellsSome o found.tree.label) is found.sees.label) in
    let at = subst (IsFirst (λ m. Any m × HoldsAt (HasLabel own.number) trees m)) none (first w.now own.number own.spells) in
    at (k + 1) (tt, HoldsAt-stands (HasLabel own.number) trees k found.tree found.there own.is)

pub again_tells : (trees : List StatementTree) (k : ℕ) (x : Seen) (w : Bor (List ℕ)) (n : ℕ) (b : Bool)
    (labels : BTreeMap (Bor (List ℕ)) ℕ) → AreFirstLabels Any trees labels → Found trees k x → x.label ≡ Some w →
    number_at labels w.now ≡ Some n → (IsTrue b → n < x.statement.number) → (n < x.statement.number → IsTrue b) →
    Tells b (IsSameLabelAt trees (k + 1))
again_tells trees k x w n b labels first found is some when back = by_test b when back
  where
    own : SpelledLabel w found.tree.label
    own = spelled_label w found.tree.label (subst (λ o. SpellsSome o found.tree.label) is found.sees.label)

    at : IsFirst (λ m. Any m × HoldsAt (HasLabel own.number) trees m) (Some n)
    at = subst (IsFirst (λ m. Any m × HoldsAt (HasLabel own.number) trees m)) some (first w.now own.number own.spells)

    by_test : (b : Bool) → (IsTrue b → n < x.statement.number) → (n < x.statement.number → IsTrue b) →
        Tells b (IsSameLabelAt trees (k + 1))
    by_test true when back = record {
      label = own.number;
      earlier = n;
      before = subst (λ z. n < z) found.number (when refl);
      first = at.0.1;
      again = HoldsAt-stands (HasLabel own.number) trees k found.tree found.there own.is;
    }
    by_test false when back = λ h.
        let shown = HoldsAt-shows (HasLabel h.label) trees k found.tree found.there h.again in
        let same : h.label ≡ own.number = some_one (sym shown ∙ own.is) in
        let before = h.before in
        elim (cases_order h.earlier n) [
          | inr (inl lt) ↦ at.1 h.earlier lt (tt, subst (λ l. HoldsAt (HasLabel l) trees h.earlier) same h.first)
          | inr (inr gt) ↦ false≢true (back (subst (λ z. n < z) (sym found.number) (omega (arith, before, gt))))
          | inl e ↦ false≢true (back (subst (λ z. n < z) (sym found.number) (omega (arith, before, e))))
        ]

-- the uses of a clamped body are those of the body
used_clamped : (how : LabelUse) (b : BodyTree) → used_label how (clamped_body b) ≡ None → used_label how b ≡ None
used_clamped Next (next n) e = absurd (none_some (sym e))
used_clamped Next (calculate t u) e = refl
used_clamped Next (dimension t u) e = refl
used_clamped Next (forget t) e = refl
used_clamped Next (resume t) e = refl
used_clamped Next (stash t) e = refl
used_clamped Next (retrieve t) e = refl
used_clamped Next (ignore t) e = refl
used_clamped Next (remember t) e = refl
used_clamped Next (abstain_label t) e = refl
used_clamped Next (abstain_kinds t) e = refl
used_clamped Next (reinstate_label t) e = refl
used_clamped Next (reinstate_kinds t) e = refl
used_clamped Next give_up e = refl
used_clamped Next (write_in t) e = refl
used_clamped Next (read_out t) e = refl
used_clamped Abstain (abstain_label n) e = absurd (none_some (sym e))
used_clamped Abstain (reinstate_label n) e = absurd (none_some (sym e))
used_clamped Abstain (calculate t u) e = refl
used_clamped Abstain (dimension t u) e = refl
used_clamped Abstain (forget t) e = refl
used_clamped Abstain (resume t) e = refl
used_clamped Abstain (stash t) e = refl
used_clamped Abstain (retrieve t) e = refl
used_clamped Abstain (ignore t) e = refl
used_clamped Abstain (remember t) e = refl
used_clamped Abstain (next t) e = refl
used_clamped Abstain (abstain_kinds t) e = refl
used_clamped Abstain (reinstate_kinds t) e = refl
used_clamped Abstain give_up e = refl
used_clamped Abstain (write_in t) e = refl
used_clamped Abstain (read_out t) e = refl

pub used_none : (how : LabelUse) (body : Option BodyTree) →
    option_and_then (used_label how) (option_map clamped_body body) ≡ None → option_and_then (used_label how) body ≡ None
used_none how None e = refl
used_none how (Some b) e = used_clamped how b e

-- a use is the label in the body
used_is : (how : LabelUse) (b : BodyTree) (n : ℕ) → used_label how b ≡ Some n → label_in b ≡ Some n
used_is Next (next k) n e = e
used_is Next _ n e = absurd (none_some e)
used_is Abstain (abstain_label k) n e = e
used_is Abstain (reinstate_label k) n e = e
used_is Abstain _ n e = absurd (none_some e)

used_body : (how : LabelUse) (body : Option BodyTree) (n : ℕ) → option_and_then (used_label how) body ≡ Some n →
    option_and_then label_in body ≡ Some n
used_body how None n e = absurd (none_some e)
used_body how (Some b) n e = used_is how b n e

used_some : (how : LabelUse) (b : BodyTree) (k : ℕ) → used_label how (clamped_body b) ≡ Some k →
    (n : ℕ) × (used_label how b ≡ Some n)
used_some Next (next n) k e = (n, refl)
used_some Next _ k e = absurd (none_some e)
used_some Abstain (abstain_label n) k e = (n, refl)
used_some Abstain (reinstate_label n) k e = (n, refl)
used_some Abstain _ k e = absurd (none_some e)

used_some_body : (how : LabelUse) (body : Option BodyTree) (k : ℕ) →
    option_and_then (used_label how) (option_map clamped_body body) ≡ Some k →
    (n : ℕ) × (option_and_then (used_label how) body ≡ Some n)
used_some_body how None k e = absurd (none_some e)
used_some_body how (Some b) k e = used_some how b k e

abbrev Uses : LabelUse → ℕ → StatementTree → Type 0
Uses how label t = option_and_then (used_label how) t.body ≡ Some label

pub lost_none : (how : LabelUse) (trees : List StatementTree) (k : ℕ) (x : Seen) (found : Found trees k x) →
    option_and_then (used_label how) found.tree.body ≡ None → IsLostAt how trees (k + 1) → ⊥
lost_none how trees k x found none h =
    none_some (sym none ∙ HoldsAt-shows (Uses how h.label) trees k found.tree found.there h.uses)

pub lost_tells : (how : LabelUse) (trees : List StatementTree) (k : ℕ) (x : Seen) (w : Bor (List ℕ)) (b : Bool)
    (labels : BTreeMap (Bor (List ℕ)) ℕ) (c : ℕ) → AreFirstLabels Any trees labels → (found : Found trees k x) →
    option_and_then (used_label how) (option_map clamped_body found.tree.body) ≡ Some c → x.used ≡ Some w →
    (IsTrue b → number_at labels w.now ≡ None) → (number_at labels w.now ≡ None → IsTrue b) →
    Tells b (IsLostAt how trees (k + 1))
lost_tells how trees k x w b labels c first found uses is when back = by_test b when back
  where
    used : (n : ℕ) × (option_and_then (used_label how) found.tree.body ≡ Some n)
    used = used_some_body how found.tree.body c uses

    own : SpelledLabel w (option_and_then label_in found.tree.body)
    own = spelled_label w _ (subst (λ o. SpellsSome o (option_and_then label_in found.tree.body)) is found.sees.used)

    same : own.number ≡ used.0
    same = some_one (sym own.is ∙ used_body how found.tree.body used.0 used.1)

    at : IsFirst (λ m. Any m × HoldsAt (HasLabel own.number) trees m) (number_at labels w.now)
    at = first w.now own.number own.spells

    found_somewhere : (o : Option ℕ) → number_at labels w.now ≡ o → IsFirst (λ m. Any m × HoldsAt (HasLabel own.number) trees m) o →
        (number_at labels w.now ≡ None → ⊥) → IsLostAt how trees (k + 1) → ⊥
    found_somewhere None e h n lost = n e
    found_somewhere (Some m) e h n lost =
        let label : used.0 ≡ lost.label =
        some_one (sym used.1 ∙ HoldsAt-shows (Uses how lost.label) trees k found.tree found.there lost.uses) in
        lost.nowhere m (subst (λ l. HoldsAt (HasLabel l) trees m) (same ∙ label) h.0.1)

    by_test : (b : Bool) → (IsTrue b → number_at labels w.now ≡ None) → (number_at labels w.now ≡ None → IsTrue b) →
        Tells b (IsLostAt how trees (k + 1))
    by_test true when back = record {
      label = used.0;
      uses = HoldsAt-stands (Uses how used.0) trees k found.tree found.there used.1;
      nowhere = λ m h.
          subst (IsFirst (λ m. Any m × HoldsAt (HasLabel own.number) trees m)) (when refl) at m
          (tt, subst (λ l. HoldsAt (HasLabel l) trees m) (sym same) h);
    }
    by_test false when back =
        found_somewhere (number_at labels w.now) refl at (λ none. false≢true (back none))

-- a use in a clamped body, of which no digits were noted, is none
pub lost_unspelled : (how : LabelUse) (trees : List StatementTree) (k : ℕ) (x : Seen) (c : ℕ) (found : Found trees k x) →
    option_and_then (used_label how) (option_map clamped_body found.tree.body) ≡ Some c → x.used ≡ None → {A : Type 0} → A
lost_unspelled how trees k x c found uses is =
    let used = used_some_body how found.tree.body c uses in
    absurd (none_some (sym (no_label _ (subst (λ o. SpellsSome o (option_and_then label_in found.tree.body)) is found.sees.used))
    ∙ used_body how found.tree.body used.0 used.1))
