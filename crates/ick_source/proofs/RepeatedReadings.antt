-- Readers of repeated parts, turn by turn.
use Rattle.std.proofs.Common.{◌≡◌, ℕ, ◌<◌, ◌≤◌, List, [], ◌∷◌, ◌++◌, length, Option, Some, None, ◌⊎◌, inl, inr, refl, sym}
use Rattle.std.proofs.Common.{ap, subst, ◌∙◌, arith}
use Rattle.ick_syntax.specs.declared.faults.Faults.{Faults}
use Rattle.ick_syntax.specs.Clamped.{no_faults, both_faults}
use Rattle.ick_source.specs.declared.cursor.Cursor.{Cursor}
use Rattle.ick_source.specs.declared.parsed.Unread.{Unread}
use Rattle.ick_source.specs.declared.parsed.Unread.TheVariants.{Absent, NoMemory}
use Rattle.ick_source.specs.Grammar.{Grammar, Further, repeated, Shorter}
use Rattle.ick_source.specs.Reading.{read}
use Rattle.ick_source.specs.declared.wanted.Wanted.{Wanted}
use Rattle.ick_source.specs.Cursors.{left, Ran, Outcome, Does, Keeps, Halts, HasRefused, Stays}
use Rattle.ick_source.proofs.ClampedLemmas.{both_assoc, both-no}
use Rattle.ick_source.proofs.GrammarLaws.{there}
use Rattle.ick_source.proofs.RepeatedFound.{prepend, prepend-end, prepend-last, repeated-last}
use Rattle.ick_source.proofs.RepeatedFound.{repeated-more}
use Rattle.ick_source.proofs.StopLemmas.{halts_later, halts_part}

-- the parts that were read so far; P holds of them and of their faults
pub record SoFar {A : Type 0} (g : Grammar A) (further : Further) (old now : Cursor) (P : List A → Faults → Type 0) :
    Type 0 where
  pub values : List A
  pub faults : Faults
  pub finding : read (repeated g further) (left old) ≡ prepend values (read (repeated g further) (left now))
  pub halts : (at : List ℕ) (w : Wanted) → Halts (repeated g further) (left now) at w →
      Halts (repeated g further) (left old) at w
  pub are_faults : now.faults ≡ both_faults old.faults faults
  pub same_text : now.text ≡ old.text
  pub holds : P values faults

pub record Repeats {A : Type 0} (g : Grammar A) (further : Further) (old now : Cursor) (P : List A → Faults → Type 0) :
    Type 0 where
  pub stays : Stays old now
  pub fine : old.refusal ≡ None → now.refusal ≡ None
  pub goes : old.refusal ≡ None → SoFar g further old now P

-- a further part follows one that was read from `now` up to `kept`; it begins at `new`
pub record Follows (further : Further) (now kept new : Cursor) : Type 0 where
  pub kept_fine : kept.refusal ≡ None
  pub new_fine : new.refusal ≡ None
  pub follows : now.refusal ≡ None → further (left now) (left kept) ≡ Some (left new)
  pub within : length (left new) ≤ length (left kept)
  pub same_faults : new.faults ≡ kept.faults
  pub same_text : new.text ≡ kept.text

pub repeats-start : {A : Type 0} (g : Grammar A) (further : Further) (old : Cursor) (P : List A → Faults → Type 0) →
    P [] no_faults → Repeats g further old old P
repeats-start g further old P holds =
    record {
      stays = λ u e. e;
      fine = λ e. e;
      goes = λ e. record {
        values = [];
        faults = no_faults;
        finding = refl;
        halts = λ at w h. h;
        are_faults = sym (both-no old.faults);
        same_text = refl;
        holds = holds;
      };
    }

apart : (o : Option Unread) (u : Unread) → o ≡ None → o ≡ Some u → ⊥
apart o u e f = let both = sym e ∙ f in cc

-- a refusal stays
pub refused_on : (old new : Cursor) (u : Unread) → Stays old new → old.refusal ≡ Some u →
    HasRefused (record { unread = u; place = left old; text = old.text }) new
refused_on old new u stays e = stays (record { unread = u; place = left old; text = old.text }) (e, refl, refl)

-- a reader without a refusal had none before
pub fine_before : (old new : Cursor) → Stays old new → new.refusal ≡ None → old.refusal ≡ None
fine_before old new stays e = by_old old.refusal refl
  where
    by_old : (o : Option Unread) → old.refusal ≡ o → old.refusal ≡ None
    by_old None o = o
    by_old (Some u) o = absurd (apart _ u e (refused_on old new u stays o).0)

-- the part, which was read and kept
record One {A T : Type 0} (g : Grammar A) (now kept : Cursor) (items items' : List T) (one : T)
    (Q : A → Faults → Type 0) : Type 0 where
  pub ran : Ran g now kept Q
  pub more : items' ≡ items ++ one ∷ []

one_kept : {A T : Type 0} (g : Grammar A) (now mid kept : Cursor) (items items' : List T) (one : T)
    (Q : A → Faults → Type 0) → Does g now mid Q → Keeps mid kept items items' one → now.refusal ≡ None →
    kept.refusal ≡ None → One g now kept items items' one Q
one_kept {A} {T} g now mid kept items items' one Q q k started fine =
    by_mid mid.refusal refl (q.ends started)
  where
    by_keep : Ran g now mid Q → ((kept ≡ mid) × (items' ≡ items ++ one ∷ [])) ⊎ (kept.refusal ≡ Some NoMemory) →
        One g now kept items items' one Q
    by_keep r (inl s) = record { ran = subst (λ z. Ran g now z Q) (sym s.0) r; more = s.1 }
    by_keep r (inr s) = absurd (apart _ _ fine s)

    by_mid : (o : Option Unread) → mid.refusal ≡ o → Outcome g now mid Q o → One g now kept items items' one Q
    by_mid None t r = by_keep r (k.ends t)
    by_mid (Some u) t r = absurd (apart _ _ fine (refused_on mid kept u k.stays t).0)

abbrev More : {A T : Type 0} → (List A → Faults → Type 0) → (A → Faults → Type 0) → (List A → Faults → Type 0) →
    List T → List T → T → Type 0
More {A} P Q R items items' one =
    (xs : List A) (f : Faults) (x : A) (k : Faults) → P xs f → Q x k → items' ≡ items ++ one ∷ [] →
    R (xs ++ x ∷ []) (both_faults f k)

-- one part more, after which another follows
pub repeats-more : {A T : Type 0} (g : Grammar A) (further : Further) (old now mid kept new : Cursor)
    (items items' : List T) (one : T) (P : List A → Faults → Type 0) (Q : A → Faults → Type 0)
    (R : List A → Faults → Type 0) → Shorter g → Repeats g further old now P → Does g now mid Q →
    Keeps mid kept items items' one → Follows further now kept new → More P Q R items items' one →
    Repeats g further old new R
repeats-more g further old now mid kept new items items' one P Q R short p q k w more =
    record {
      stays = λ u e. absurd (apart _ _ w.kept_fine (k.stays u (q.stays u (p.stays u e))).0);
      fine = λ e. w.new_fine;
      goes = λ e.
          let s = p.goes e in
          let o = one_kept g now mid kept items items' one Q q k (p.fine e) w.kept_fine in
          let r = o.ran in
          let less : length (left new) < length (left now) =
          omega (arith, w.within, short (left now) (left kept) r.value (there g (left now) _ r.finding)) in
          record {
            values = s.values ++ r.value ∷ [];
            faults = both_faults s.faults r.faults;
            finding =
                s.finding
                ∙ ap (prepend s.values)
                (repeated-more g further (left now) (left kept) (left new) r.value r.finding (w.follows (p.fine e)) less)
                ∙ sym (prepend-end s.values r.value (read (repeated g further) (left new)));
            halts = λ at v h. s.halts at v
                (halts_later g further (left now) (left kept) (left new) at r.value v (there g (left now) _ r.finding)
                (w.follows (p.fine e)) less h);
            are_faults =
                w.same_faults ∙ r.are_faults ∙ ap (λ z. both_faults z r.faults) s.are_faults
                ∙ both_assoc old.faults s.faults r.faults;
            same_text = w.same_text ∙ r.same_text ∙ s.same_text;
            holds = more s.values s.faults r.value r.faults s.holds r.holds o.more;
          };
    }

pub repeats-shorter : {A T : Type 0} (g : Grammar A) (further : Further) (now mid kept new : Cursor)
    (items items' : List T) (one : T) (Q : A → Faults → Type 0) → Shorter g → Does g now mid Q →
    Keeps mid kept items items' one → Follows further now kept new → length (left new) < length (left now)
repeats-shorter g further now mid kept new items items' one Q short q k w =
    let started = fine_before now kept (λ u e. k.stays u (q.stays u e)) w.kept_fine in
    let r = (one_kept g now mid kept items items' one Q q k started w.kept_fine).ran in
    omega (arith, w.within, short (left now) (left kept) r.value (there g (left now) _ r.finding))

-- the last part
pub repeats-ends : {A T : Type 0} (g : Grammar A) (further : Further) (old now mid new : Cursor) (items items' : List T)
    (one : T) (P : List A → Faults → Type 0) (Q : A → Faults → Type 0) (R : List A → Faults → Type 0) →
    Repeats g further old now P → Does g now mid Q → Keeps mid new items items' one →
    (now.refusal ≡ None → new.refusal ≡ None → further (left now) (left new) ≡ None) → More P Q R items items' one →
    Does (repeated g further) old new R
repeats-ends g further old now mid new items items' one P Q R p q k none_follows more =
    record {
      stays = λ u e. k.stays u (q.stays u (p.stays u e));
      ends = λ e. by_new e new.refusal refl;
    }
  where
    by_keep : (u : Unread) (v : Wanted) → new.refusal ≡ Some u → mid.refusal ≡ None → u ≡ Absent v →
        ((new ≡ mid) × (items' ≡ items ++ one ∷ [])) ⊎ (new.refusal ≡ Some NoMemory) →
        (Halts (repeated g further) (left old) (left new) v) × (new.text ≡ old.text)
    by_keep u v n m a (inl s) = absurd (apart _ _ m (ap (λ (z : Cursor). z.refusal) (sym s.0) ∙ n))
    by_keep u v n m a (inr s) = absurd (let both = sym n ∙ s in cc)

    by_mid : (e : old.refusal ≡ None) (u : Unread) (v : Wanted) → new.refusal ≡ Some u → (o : Option Unread) →
        mid.refusal ≡ o → Outcome g now mid Q o → u ≡ Absent v →
        (Halts (repeated g further) (left old) (left new) v) × (new.text ≡ old.text)
    by_mid e u v n None m r a = by_keep u v n m a (k.ends m)
    by_mid e u v n (Some t) m r a =
        let s = p.goes e in
        let same = refused_on mid new t k.stays m in
        let absent : t ≡ Absent v = let both = sym n ∙ same.0 in cc in (
          subst (λ l. Halts (repeated g further) (left old) l v) (sym same.1)
              (s.halts (left mid) v (halts_part g further (left now) (left mid) v (r v absent).0)),
          same.2 ∙ (r v absent).1 ∙ s.same_text,
        )

    by_new : (e : old.refusal ≡ None) (o : Option Unread) → new.refusal ≡ o → Outcome (repeated g further) old new R o
    by_new e None n =
        let s = p.goes e in
        let o = one_kept g now mid new items items' one Q q k (p.fine e) n in
        let r = o.ran in
        record {
          value = s.values ++ r.value ∷ [];
          faults = both_faults s.faults r.faults;
          finding =
              s.finding
              ∙ ap (prepend s.values)
              (repeated-last g further (left now) (left new) r.value r.finding (none_follows (p.fine e) n))
              ∙ prepend-last s.values r.value (left new);
          are_faults =
              r.are_faults ∙ ap (λ z. both_faults z r.faults) s.are_faults ∙ both_assoc old.faults s.faults r.faults;
          same_text = r.same_text ∙ s.same_text;
          holds = more s.values s.faults r.value r.faults s.holds r.holds o.more;
        }
    by_new e (Some u) n = λ v a. by_mid e u v n mid.refusal refl (q.ends (p.fine e)) a
