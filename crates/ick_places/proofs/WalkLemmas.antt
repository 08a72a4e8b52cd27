-- Walks over parts, one after another.
use Rattle.std.proofs.Common.{◌≡◌, ℕ, Bool, true, false, List, [], ◌++◌, length}
use Rattle.std.proofs.Common.{refl, sym, ap, subst, ◌∙◌, arith}
use Rattle.std.proofs.lemmas.List.{append-nil, append_assoc}
use Rattle.ick_places.specs.declared.mark.Mark.{Mark}
use Rattle.ick_places.specs.declared.walker.Walker.{Walker}
use Rattle.ick_places.specs.Marks.{past, left_of}
use Rattle.ick_places.specs.Walks.{left, Keeps, Adds, Walks}
use Rattle.ick_source.specs.declared.position.Position.{Position}
use Rattle.ick_source.specs.declared.lead.Lead.{Lead}
use Rattle.ick_source.specs.declared.wanted.Wanted.{Wanted}
use Rattle.ick_source.specs.Grammar.{Grammar, yields, nothing, sequence, sign, next, stands, when}
use Rattle.ick_source.specs.Position.{left_at, next_lead}
use Rattle.ick_source.proofs.GrammarLaws.{found}

pub past-is : {A : Type 0} (g : Grammar A) (from to : List ℕ) (x : A) → stands g from to x → past g from ≡ to
unfolding past
past-is g from to x p = ap (left_of from) (found g from to x p)

pub left-same : (old new : Walker) → new.text ≡ old.text → new.at ≡ old.at → left new ≡ left old
left-same old new e f = rw (e, f) refl

pub keeps_same : (now : Walker) → Keeps now now
keeps_same now = record { same_text = refl; fine = λ f. f; within = omega arith }

pub keeps_then : {old mid new : Walker} → Keeps old mid → Keeps mid new → Keeps old new
keeps_then p q = record {
  same_text = q.same_text ∙ p.same_text;
  fine = λ f. p.fine (q.fine f);
  within = omega (arith, p.within, q.within);
}

pub adds_keeps : {old new : Walker} {ms : List Mark} → Adds old new ms → Keeps old new
adds_keeps {old} {new} p = record {
  same_text = p.same_text;
  fine = p.fine;
  within = omega (arith, ap length (left-same old new p.same_text p.same_place));
}

pub walks_yields : {A : Type 0} (a : A) (now : Walker) → Walks (yields a) now now []
unfolding stands
walks_yields a now = record {
  keeps = keeps_same now;
  goes = λ to x p. p.0;
  added = λ to x p f. sym (append-nil now.marks.items);
}

pub walks_nothing : {A : Type 0} {w : Wanted} (old new : Walker) (ms : List Mark) → Keeps old new →
    Walks {A = A} (nothing w) old new ms
unfolding stands
walks_nothing old new ms k = record { keeps = k; goes = λ to x p. absurd p; added = λ to x p f. absurd p }

-- a walk over a grammar that has nothing more than another one
pub walks_within : {A B : Type 0} (g : Grammar A) (h : Grammar B) (old new : Walker) (ms : List Mark) →
    ((to : List ℕ) (y : B) → stands h (left old) to y → (x : A) × stands g (left old) to x) → Walks g old new ms →
    Walks h old new ms
walks_within g h old new ms fewer w = record {
  keeps = w.keeps;
  goes = λ to y p. let q = fewer to y p in w.goes to q.0 q.1;
  added = λ to y p f. let q = fewer to y p in w.added to q.0 q.1 f;
}

pub walks_when : {A : Type 0} (v : Wanted) (b : Bool) (g : Grammar A) (old new : Walker) (ms : List Mark) →
    Walks g old new ms → Walks (when v b g) old new ms
walks_when v true g old new ms w = w
walks_when v false g old new ms w = walks_nothing old new ms w.keeps

-- one part after another
pub walks_then : {A B : Type 0} (g : Grammar A) (f : A → Grammar B) (old mid new : Walker) (ms ns : List Mark) →
    Walks g old mid ms → Keeps mid new →
    ((a : A) → stands g (left old) (left mid) a → Walks (f a) mid new ns) → Walks (sequence g f) old new (ms ++ ns)
unfolding stands
walks_then g f old mid new ms ns w k v = record {
  keeps = keeps_then w.keeps k;
  goes = λ to x p.
      let e = w.goes p.0 p.1 p.2 in
      (v p.1 (subst (λ z. stands g (left old) z p.1) (sym e) p.2)).goes to x
      (subst (λ z. stands (f p.1) z to x) (sym e) p.3);
  added = λ to x p fine.
      let e = w.goes p.0 p.1 p.2 in
      (v p.1 (subst (λ z. stands g (left old) z p.1) (sym e) p.2)).added to x
      (subst (λ z. stands (f p.1) z to x) (sym e) p.3) fine
      ∙ ap (λ z. z ++ ns) (w.added p.0 p.1 p.2 (k.fine fine)) ∙ append_assoc old.marks.items ms ns;
}

-- the same if what comes first can be one value only
pub walks_by : {A B : Type 0} (g : Grammar A) (f : A → Grammar B) (old mid new : Walker) (b : A) (ns : List Mark) →
    ((to : List ℕ) (x : A) → stands g (left old) to x → x ≡ b) → Walks g old mid [] → Walks (f b) mid new ns →
    Walks (sequence g f) old new ns
walks_by g f old mid new b ns only w v =
    walks_then g f old mid new [] ns w v.keeps
    (λ a p. subst (λ z. Walks (f z) mid new ns) (sym (only _ a p)) v)

-- a value is made of a part
pub walks_made : {A B : Type 0} (g : Grammar A) (make : A → B) (old new : Walker) (ms : List Mark) → Walks g old new ms →
    Walks (sequence g (λ a. yields (make a))) old new ms
walks_made g make old new ms w =
    subst (λ z. Walks (sequence g (λ a. yields (make a))) old new z) (append-nil ms)
    (walks_then g (λ a. yields (make a)) old new new ms [] w (keeps_same new) (λ a p. walks_yields (make a) new))

pub walks_next : (now : Walker) → Walks next now now []
unfolding stands
walks_next now = record {
  keeps = keeps_same now;
  goes = λ to x p. p.1;
  added = λ to x p f. sym (append-nil now.marks.items);
}

pub next-is : (from : List ℕ) (l : Lead) → l ≡ next_lead from → (to : List ℕ) (x : Lead) → stands next from to x → x ≡ l
unfolding stands
next-is from l e to x p = sym p.0 ∙ sym e

pub sign-is : (from : List ℕ) (l : Lead) → l ≡ next_lead from → (to : List ℕ) (x : Lead) → stands sign from to x → x ≡ l
unfolding stands
sign-is from l e to x p = sym p.0 ∙ sym e

-- marks after a part
pub walks_adds : {A : Type 0} (g : Grammar A) (old mid new : Walker) (ms ns : List Mark) → Walks g old mid ms →
    Adds mid new ns → Walks g old new (ms ++ ns)
walks_adds g old mid new ms ns w v = record {
  keeps = keeps_then w.keeps (adds_keeps v);
  goes = λ to x p. left-same mid new v.same_text v.same_place ∙ w.goes to x p;
  added = λ to x p fine.
      v.added fine ∙ ap (λ z. z ++ ns) (w.added to x p (v.fine fine)) ∙ append_assoc old.marks.items ms ns;
}

-- marks before a part
pub adds_walks : {A : Type 0} (g : Grammar A) (old mid new : Walker) (ms ns : List Mark) → Adds old mid ms →
    Walks g mid new ns → Walks g old new (ms ++ ns)
adds_walks g old mid new ms ns v w =
    let e = left-same old mid v.same_text v.same_place in
    record {
      keeps = keeps_then (adds_keeps v) w.keeps;
      goes = λ to x p. w.goes to x (subst (λ z. stands g z to x) (sym e) p);
      added = λ to x p fine.
          w.added to x (subst (λ z. stands g z to x) (sym e) p) fine
          ∙ ap (λ z. z ++ ns) (v.added (w.keeps.fine fine)) ∙ append_assoc old.marks.items ms ns;
    }

pub text-is : {old new : Walker} → Keeps old new → new.text.now ≡ old.text.now
text-is k = ap (λ z. z.now) k.same_text

-- marks of a whole part, by the text and the characters at a position and here
pub walks_marks : {A : Type 0} (g : Grammar A) (old mid new : Walker) (ms : List Mark)
    (marks : (text from to : List ℕ) → List Mark) (p : Position) → Walks g old mid ms →
    Adds mid new (marks mid.text.now (left_at mid.text.now p) (left mid)) →
    Walks g old new (ms ++ marks old.text.now (left_at old.text.now p) (past g (left old)))
walks_marks g old mid new ms marks p w v = record {
  keeps = keeps_then w.keeps (adds_keeps v);
  goes = λ to x q. left-same mid new v.same_text v.same_place ∙ w.goes to x q;
  added = λ to x q fine.
      v.added fine
      ∙ ap (λ z. z ++ marks mid.text.now (left_at mid.text.now p) (left mid)) (w.added to x q (v.fine fine))
      ∙ append_assoc old.marks.items ms _
      ∙ ap (λ z. old.marks.items ++ (ms ++ marks mid.text.now (left_at mid.text.now p) z))
      (w.goes to x q ∙ sym (past-is g (left old) to x q))
      ∙ ap (λ z. old.marks.items ++ (ms ++ marks z (left_at z p) (past g (left old)))) (text-is w.keeps);
}

-- a part, and one more that has no marks
pub walks_end : {A B : Type 0} (g : Grammar A) (f : A → Grammar B) (old mid new : Walker) (ms : List Mark) →
    Walks g old mid ms → Keeps mid new → ((a : A) → Walks (f a) mid new []) → Walks (sequence g f) old new ms
walks_end g f old mid new ms w k v =
    subst (λ z. Walks (sequence g f) old new z) (append-nil ms)
    (walks_then g f old mid new ms [] w k (λ a p. v a))

pub walks_as : {A : Type 0} (g : Grammar A) (old new : Walker) (ms ns : List Mark) → ms ≡ ns → Walks g old new ms →
    Walks g old new ns
walks_as g old new ms ns e w = subst (λ z. Walks g old new z) e w

-- the same if the marks are the same where the part stands
pub walks_as_if : {A : Type 0} (g : Grammar A) (old new : Walker) (ms ns : List Mark) →
    ((to : List ℕ) (x : A) → stands g (left old) to x → ms ≡ ns) → Walks g old new ms → Walks g old new ns
walks_as_if g old new ms ns e w = record {
  keeps = w.keeps;
  goes = w.goes;
  added = λ to x p fine. w.added to x p fine ∙ ap (λ z. old.marks.items ++ z) (e to x p);
}

-- a walk that stays where it is
pub walks_stay : {A : Type 0} (g : Grammar A) (old mid new : Walker) (ms : List Mark) → Walks g old mid ms →
    Keeps mid new → left new ≡ left mid → (new.refused ≡ false → new.marks.items ≡ mid.marks.items) →
    Walks g old new ms
walks_stay g old mid new ms w k e same = record {
  keeps = keeps_then w.keeps k;
  goes = λ to x p. e ∙ w.goes to x p;
  added = λ to x p fine. same fine ∙ w.added to x p (k.fine fine);
}

-- the same if they are the same where memory wasn't refused
pub walks_as_fine : {A : Type 0} (g : Grammar A) (old new : Walker) (ms ns : List Mark) →
    ((to : List ℕ) (x : A) → stands g (left old) to x → new.refused ≡ false → ms ≡ ns) → Walks g old new ms →
    Walks g old new ns
walks_as_fine g old new ms ns e w = record {
  keeps = w.keeps;
  goes = w.goes;
  added = λ to x p fine. w.added to x p fine ∙ ap (λ z. old.marks.items ++ z) (e to x p fine);
}
