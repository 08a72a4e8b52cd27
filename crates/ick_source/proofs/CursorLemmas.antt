-- Readers that keep their first refusal, one after another.
use Rattle.std.specs.Prelude.{is_some}
use Rattle.std.proofs.Common.{◌≡◌, ℕ, Bool, true, false, List, Option, Some, None, inr, refl, sym, ap, subst, ◌∙◌}
use Rattle.ick_syntax.specs.declared.faults.Faults.{Faults}
use Rattle.ick_syntax.specs.Clamped.{no_faults, both_faults}
use Rattle.ick_source.specs.declared.cursor.Cursor.{Cursor}
use Rattle.ick_source.specs.declared.parsed.Unread.{Unread}
use Rattle.ick_source.specs.declared.parsed.Unread.TheVariants.{Absent}
use Rattle.ick_source.specs.declared.wanted.Wanted.{Wanted}
use Rattle.ick_source.specs.Grammar.{Grammar, sequence, yields, nothing, next, sign, looks, past_word}
use Rattle.ick_source.specs.declared.lead.Lead.{Lead}
use Rattle.ick_source.specs.Position.{past_white, next_lead}
use Rattle.ick_source.specs.Reading.{read, is_there}
use Rattle.ick_syntax.specs.BodyTree.{BodyTree, clamped_body, faults_of_body}
use Rattle.ick_source.specs.Cursors.{left, Clamping, Ran, Outcome, Does, Reads, IsPlain, IsPlainSome, Sees, Refuses}
use Rattle.ick_source.specs.Cursors.{body_trees, Halts, HasRefused, Stays}
use Rattle.ick_source.specs.Stops.{stops, told_by}
use Rattle.ick_source.specs.Wanted.{is_told_by_character}
use Rattle.ick_source.proofs.GrammarLaws.{there}
use Rattle.ick_source.proofs.StopLemmas.{halts_first, halts_then}
use Rattle.ick_source.proofs.ClampedLemmas.{both_assoc, both-no}
use Rattle.ick_source.proofs.SequenceFound.{after, done}

pub does_yield : {A : Type 0} (now : Cursor) (x : A) (Q : A → Faults → Type 0) → Q x no_faults → Does (yields x) now now Q
does_yield {A} now x Q holds =
    record {
      stays = λ u e. e;
      ends = λ e. subst (λ o. Outcome (yields x) now now Q o) (sym e) (record {
        value = x;
        faults = no_faults;
        finding = done x (left now);
        are_faults = sym (both-no now.faults);
        same_text = refl;
        holds = holds;
      });
    }

-- what holds of a value, weakened
pub does_same : {A : Type 0} (g : Grammar A) (now new : Cursor) (P Q : A → Faults → Type 0) →
    ((a : A) (f : Faults) → P a f → Q a f) → Does g now new P → Does g now new Q
does_same {A} g now new P Q weaker p =
    record { stays = p.stays; ends = λ e. by_end new.refusal (p.ends e) }
  where
    by_end : (o : Option Unread) → Outcome g now new P o → Outcome g now new Q o
    by_end None r =
        record {
          value = r.value;
          faults = r.faults;
          finding = r.finding;
          are_faults = r.are_faults;
          same_text = r.same_text;
          holds = weaker r.value r.faults r.holds;
        }
    by_end (Some u) r = r

-- one part after another
pub does_then : {A B : Type 0} (g : Grammar A) (h : A → Grammar B) (old mid new : Cursor) (P : A → Faults → Type 0)
    (Q : B → Faults → Type 0) → Does g old mid P →
    Stays mid new →
    ((a : A) (f : Faults) → P a f → Does (h a) mid new (λ b k. Q b (both_faults f k))) →
    Does (sequence g h) old new Q
does_then {A} {B} g h old mid new P Q p stays q =
    record {
      stays = λ u e. stays u (p.stays u e);
      ends = λ e. by_mid mid.refusal refl (p.ends e);
    }
  where
    by_new : (w : Ran g old mid P) (o : Option Unread) → Outcome (h w.value) mid new (λ b k. Q b (both_faults w.faults k)) o →
        Outcome (sequence g h) old new Q o
    by_new w None r =
        record {
          value = r.value;
          faults = both_faults w.faults r.faults;
          finding = after g h (left old) (left mid) w.value w.finding ∙ r.finding;
          are_faults = r.are_faults ∙ rw w.are_faults (both_assoc old.faults w.faults r.faults);
          same_text = r.same_text ∙ w.same_text;
          holds = r.holds;
        }
    by_new w (Some u) r =
        λ v e. (
          λ told. halts_then g h told (left old) (left mid) (left new) w.value v (there g (left old) _ w.finding)
              ((r v e).0 (told_by g (left old) (left mid))),
          (r v e).1 ∙ w.same_text,
        )

    by_mid : (o : Option Unread) → mid.refusal ≡ o → Outcome g old mid P o → Outcome (sequence g h) old new Q new.refusal
    by_mid None m w = by_new w new.refusal ((q w.value w.faults w.holds).ends m)
    by_mid (Some u) m r =
        let kept = stays (record { unread = u; place = left mid; text = mid.text }) (m, refl, refl) in
        subst (λ o. Outcome (sequence g h) old new Q o) (sym kept.0)
        (λ v e. (
          λ told. subst (λ l. stops (sequence g h) told (left old) l v) (sym kept.1)
              (halts_first g h told (left old) (left mid) v ((r v e).0 told)),
          kept.2 ∙ (r v e).1,
        ))

-- nothing is read after a refusal
pub does_nothing : {A : Type 0} (g : Grammar A) (now : Cursor) (Q : A → Faults → Type 0) (u : Unread) →
    now.refusal ≡ Some u → Does g now now Q
does_nothing g now Q u e = record { stays = λ v f. f; ends = λ f. absurd (let both = sym e ∙ f in cc) }

-- one part, made into a body
pub reads_made : {A : Type 0} (g : Grammar A) (c : Clamping A) (old new : Cursor) (seen : c.Clamped)
    (make : A → BodyTree) (made : Option BodyTree) → Reads g c old new seen →
    ((x : A) → seen ≡ c.clamp x → made ≡ Some (clamped_body (make x))) →
    ((x : A) → c.faults x ≡ faults_of_body (make x)) →
    Reads (sequence g (λ x. yields (make x))) body_trees old new made
reads_made g c old new seen make made p is faults =
    does_then g (λ x. yields (make x)) old new new _ _ p (λ u e. e)
    (λ x f q. does_yield new (make x) _ (record {
      is_clamped = is x q.is_clamped;
      is_faults = both-no f ∙ q.is_faults ∙ faults x;
    }))

-- a part decides what is read after it
pub does_decided : {A B : Type 0} (g : Grammar A) (h : A → Grammar B) (old mid new : Cursor) (b : A)
    (Q : B → Faults → Type 0) → Does g old mid (IsPlain b) →
    Stays mid new → Does (h b) mid new Q → Does (sequence g h) old new Q
does_decided {A} {B} g h old mid new b Q s stays p =
    does_then g h old mid new (IsPlain b) Q s stays
    (λ a f q. subst (λ z. Does (h z) mid new (λ c k. Q c (both_faults f k))) (sym q.same)
    (does_same (h b) mid new Q (λ c k. Q c (both_faults f k)) (λ c k w. subst (λ z. Q c (both_faults z k)) (sym q.none) w) p))

-- the same with the value that the part is known to have
pub does_by : {A B : Type 0} (g : Grammar A) (h : A → Grammar B) (old mid new : Cursor) (a b : A)
    (Q : B → Faults → Type 0) → Does g old mid (IsPlain a) → a ≡ b →
    Stays mid new → Does (h b) mid new Q → Does (sequence g h) old new Q
does_by g h old mid new a b Q s e stays p =
    does_decided g h old mid new a Q s stays (subst (λ z. Does (h z) mid new Q) (sym e) p)

pub does_some : {A B : Type 0} (g : Grammar A) (h : A → Grammar B) (old mid new : Cursor) (seen : Option A) (x : A)
    (Q : B → Faults → Type 0) → Does g old mid (IsPlainSome seen) → seen ≡ Some x →
    Stays mid new → Does (h x) mid new Q → Does (sequence g h) old new Q
does_some g h old mid new seen x Q s e stays p =
    does_decided g h old mid new x Q
    (does_same g old mid (IsPlainSome seen) (IsPlain x)
    (λ a f q. record { same = let both : Some a ≡ Some x = sym q.same ∙ e in cc; none = q.none }) s) stays p

-- the same if nothing that was read has a value
pub does_never : {A B : Type 0} (g : Grammar A) (h : A → Grammar B) (old new : Cursor) (P : A → Faults → Type 0)
    (Q : B → Faults → Type 0) → Does g old new P → ((a : A) (f : Faults) → P a f → ⊥) → Does (sequence g h) old new Q
does_never g h old new P Q p never =
    does_then g h old new new P Q p (λ u e. e) (λ a f q. absurd (never a f q))

pub does_next : (now : Cursor) (l : Lead) → (now.refusal ≡ None → l ≡ next_lead (left now)) → Does next now now (IsPlain l)
unfolding read
does_next now l e =
    record {
      stays = λ u f. f;
      ends = λ f. subst (λ o. Outcome next now now (IsPlain l) o) (sym f) (record {
        value = next_lead (left now);
        faults = no_faults;
        finding = refl;
        are_faults = sym (both-no now.faults);
        same_text = refl;
        holds = record { same = sym (e f); none = refl };
      });
    }

pub does_look : (w : List ℕ) (now : Cursor) (b : Bool) → Sees w now b → Does (looks w) now now (IsPlain b)
unfolding read
does_look w now b e =
    record {
      stays = λ u f. f;
      ends = λ f. subst (λ o. Outcome (looks w) now now (IsPlain b) o) (sym f) (record {
        value = is_there (past_word w (past_white (left now)));
        faults = no_faults;
        finding = refl;
        are_faults = sym (both-no now.faults);
        same_text = refl;
        holds = record { same = sym (e.is f); none = refl };
      });
    }

same_wanted : (v w : Wanted) → Absent v ≡ Absent w → v ≡ w
same_wanted v w e = cc

-- a refusal where reading stops
pub does_refused : {A : Type 0} (g : Grammar A) (old new : Cursor) (w : Wanted) (place : List ℕ) (Q : A → Faults → Type 0) →
    Refuses w place old new → (old.refusal ≡ None → Halts g (left old) place w) → Does g old new Q
does_refused g old new w place Q p halts =
    record {
      stays = p.stays;
      ends = λ e.
          let kept = p.kept e in
          subst (λ o. Outcome g old new Q o) (sym kept.0)
          (λ v same. (
            λ told. subst (λ x. stops g told (left old) (left new) x) (same_wanted w v same)
                (subst (λ l. stops g told (left old) l w) (sym kept.1) (halts e told)),
            kept.2,
          ));
    }

pub nothing_refused : {A : Type 0} (old new : Cursor) (w : Wanted) (Q : A → Faults → Type 0) →
    is_told_by_character w ≡ false → Refuses w (left old) old new → Does (nothing w) old new Q
unfolding stops
nothing_refused old new w Q untold p = does_refused (nothing w) old new w (left old) Q p (λ e told. (rw untold refl, refl))

-- the next character is none that may be there
pub does_stopped : {A : Type 0} (f : Lead → Grammar A) (old mid new : Cursor) (l : Lead) (w : Wanted) (place : List ℕ)
    (Q : A → Faults → Type 0) → Does sign old mid (IsPlain l) → (mid.text ≡ old.text → place ≡ left old) →
    Refuses w place mid new → f l ≡ nothing w → is_told_by_character w ≡ true → Does (sequence sign f) old new Q
unfolding stops
does_stopped {A} f old mid new l w place Q s is r none told_by_it =
    record {
      stays = λ u e. r.stays u (s.stays u e);
      ends = λ e. by_mid mid.refusal refl (s.ends e);
    }
  where
    stop : (x : Ran sign old mid (IsPlain l)) (kept : HasRefused (record { unread = Absent w; place = place; text = mid.text }) new) →
        Outcome (sequence sign f) old new Q (Some (Absent w))
    stop x kept =
        λ v same. (
          λ told. inr (
            left mid,
            x.value,
            there sign (left old) _ x.finding,
            subst (λ h. stops h (left old) (left mid) (left new) v) (sym (ap f x.holds.same ∙ none))
                (rw told_by_it (sym (is x.same_text) ∙ sym kept.1), same_wanted w v same),
          ),
          kept.2 ∙ x.same_text,
        )

    by_mid : (o : Option Unread) → mid.refusal ≡ o → Outcome sign old mid (IsPlain l) o →
        Outcome (sequence sign f) old new Q new.refusal
    by_mid None m x =
        let kept = r.kept m in subst (λ o. Outcome (sequence sign f) old new Q o) (sym kept.0) (stop x kept)
    by_mid (Some u) m x =
        let kept = r.stays (record { unread = u; place = left mid; text = mid.text }) (m, refl, refl) in
        subst (λ o. Outcome (sequence sign f) old new Q o) (sym kept.0) (λ v same. absurd ((x v same).0 (left old)))

-- what was found, with the cursor after it
pub does_find : {A : Type 0} (g : Grammar A) (old new : Cursor) (x : A) (f : Faults) (Q : A → Faults → Type 0) →
    old.refusal ≡ None → new.refusal ≡ None → read g (left old) ≡ Some (record { value = x; left = left new }) →
    new.faults ≡ both_faults old.faults f → new.text ≡ old.text → Q x f → Does g old new Q
does_find g old new x f Q fine still finding faults text holds =
    record {
      stays = λ v e. absurd (let both = sym fine ∙ e.0 in cc);
      ends = λ e. subst (λ o. Outcome g old new Q o) (sym still) (record {
        value = x;
        faults = f;
        finding = finding;
        are_faults = faults;
        same_text = text;
        holds = holds;
      });
    }

-- a test of the refusal that fails
pub none_is : {A : Type 0} (o : Option A) → is_some o ≡ false → o ≡ None
none_is None e = refl
none_is (Some x) e = absurd cc

pub some_is : {A : Type 0} (o : Option A) → is_some o ≡ true → (x : A) × (o ≡ Some x)
some_is None e = absurd cc
some_is (Some x) e = (x, refl)
