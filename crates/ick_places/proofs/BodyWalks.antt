-- Walks over bodies and their parts.
use Rattle.std.proofs.Common.{◌≡◌, ℕ, ◌+◌, ◌≤◌, ◌<◌, ◌&&◌, not, Bool, true, false, List, [], ◌∷◌, ◌++◌, length, Some, None}
use Rattle.std.proofs.Common.{refl, sym, ap, subst, ◌∙◌, arith, codes, get_or, inl, inr}
use Rattle.std.proofs.lemmas.Bool.{cases_lt}
use Rattle.std.proofs.lemmas.List.{append-nil}
use Rattle.ick_places.specs.declared.mark.Mark.{Mark}
use Rattle.ick_places.specs.declared.mark.Part.TheVariants as parts
use Rattle.ick_places.specs.declared.walker.Walker.{Walker}
use Rattle.ick_places.specs.Bodies.{is_ahead, index_marks, acted_marks, array_place_marks, place_marks_by, assigned_marks}
use Rattle.ick_places.specs.declared.body.Member.TheVariants as members
use Rattle.ick_places.specs.Bodies.{switch_marks, list_marks, after_marks, verb_marks, worded_marks, body_marks_by, body_marks}
use Rattle.ick_places.specs.Bodies.{scalar_marks, array_marks, target_marks, call_marks, item_marks_by}
use Rattle.ick_places.specs.Marks.{mark, past}
use Rattle.ick_places.specs.Walks.{left, Keeps, Adds, Walks, HasMarksOf, Finds, element_values}
use Rattle.ick_places.proofs.WalkLemmas.{keeps_same, keeps_then, adds_keeps, walks_yields, walks_nothing, walks_then, walks_by}
use Rattle.ick_places.proofs.WalkLemmas.{walks_made, walks_next, next-is, sign-is, walks_adds, adds_walks, walks_marks, walks_end}
use Rattle.ick_places.proofs.WalkLemmas.{walks_as, walks_as_if, walks_as_fine, past-is, text-is, left-same}
use Rattle.ick_source.specs.declared.lead.Lead.{Lead}
use Rattle.ick_source.specs.declared.lead.Lead.TheVariants.{Spot, Array, Hash, Group, Unary, Binary, Other}
use Rattle.ick_source.specs.declared.position.Position.{Position}
use Rattle.ick_source.specs.BodyGrammar.{indices, named, name_by, names, labels, gerunds, array_place, place_by}
use Rattle.ick_source.specs.BodyGrammar.{places, item_by, items, assigned, scalar_bodies, array_by, array_bodies, calls}
use Rattle.ick_source.specs.BodyGrammar.{verbs, after, worded_by, body_by, bodies}
use Rattle.ick_source.specs.declared.verb.Verb.{Verb}
use Rattle.ick_syntax.specs.declared.body.Gerund.{Gerund}
use Rattle.ick_source.specs.declared.wanted.Wanted.{Wanted}
use Rattle.ick_source.specs.Grammar.{Grammar, sign, word, number, next, looks, sequence, yields, stands, past_word}
use Rattle.ick_source.specs.Grammar.{among, pick, separated}
use Rattle.ick_source.specs.Position.{left_at, next_lead, past_lead, past_white}
use Rattle.ick_source.specs.Reading.{read}
use Rattle.ick_source.proofs.GrammarLaws.{found, one_found}
use Rattle.ick_source.proofs.WordReadings.{among_found, among_nothing}
use Rattle.ick_syntax.specs.declared.tree.Name.{Name}
use Rattle.ick_syntax.specs.declared.tree.NameKind.{NameKind}
use Rattle.ick_syntax.specs.BodyTree.{BodyTree}
use Rattle.ick_syntax.specs.NameKinds.{is_tail}
use Rattle.ick_syntax.specs.Tree.{Tree, Trees}

pub walks_label : (old a b c d : Walker) → Walks (word (codes "(")) old a [] → Walks number a b [] →
    Walks (word (codes ")")) b c [] → Adds c d (mark c.text.now parts.Label (left_at c.text.now old.at) (left c) ∷ []) →
    Walks labels old d (mark old.text.now parts.Label (left old) (past labels (left old)) ∷ [])
unfolding labels
walks_label old a b c d first n last one =
    walks_marks labels old c d [] (λ text from to. mark text parts.Label from to ∷ []) old.at
    (walks_end (word (codes "(")) _ old a c [] first (keeps_then n.keeps last.keeps)
    (λ u. walks_end number _ a b c [] n last.keeps (λ v. walks_made (word (codes ")")) (λ w. v) b c [] last))) one

pub walks_named : (kind : NameKind) (old new : Walker) → Walks number old new [] → Walks (named kind) old new []
unfolding named
walks_named kind old new n = walks_made number _ old new [] n

named_by : (l : Lead) (old new : Walker) → Walks number old new [] → Walks (name_by l) old new []
named_by (Spot k) old new n = walks_named k old new n
named_by (Array k) old new n = walks_named k old new n
named_by Hash old new n = walks_nothing old new [] n.keeps
named_by (Group q) old new n = walks_nothing old new [] n.keeps
named_by (Unary o) old new n = walks_nothing old new [] n.keeps
named_by (Binary o) old new n = walks_nothing old new [] n.keeps
named_by Other old new n = walks_nothing old new [] n.keeps

pub walks_name : (old a b c : Walker) → Walks sign old a [] → Walks number a b [] →
    Adds b c (mark b.text.now parts.Listed (left_at b.text.now old.at) (left b) ∷ []) →
    Walks names old c (mark old.text.now parts.Listed (left old) (past names (left old)) ∷ [])
unfolding names
walks_name old a b c s n one =
    walks_marks names old b c [] (λ text from to. mark text parts.Listed from to ∷ []) old.at
    (walks_end sign name_by old a b [] s n.keeps (λ l. named_by l a b n)) one

-- the words before the one at an index don't follow
pub record Tried {A : Type 0} (spelled : A → List ℕ) (xs : List A) (index : ℕ) (d : A) (old now : Walker) : Type 0 where
  pub keeps : Keeps old now
  pub here : left now ≡ left old
  pub same : HasMarksOf old now
  pub before : (k : ℕ) → k < index → past_word (spelled (get_or xs k d)) (past_white (left old)) ≡ None

pub same_marks : (now : Walker) → HasMarksOf now now
same_marks now = record { refused = refl; marks = refl }

pub same_then : {old mid new : Walker} → HasMarksOf old mid → HasMarksOf mid new → HasMarksOf old new
same_then p q = record { refused = q.refused ∙ p.refused; marks = q.marks ∙ p.marks }

pub tried_none : {A : Type 0} (spelled : A → List ℕ) (xs : List A) (d : A) (now : Walker) → Tried spelled xs 0 d now now
tried_none spelled xs d now = record {
  keeps = keeps_same now;
  here = refl;
  same = same_marks now;
  before = λ k low. absurd (omega (arith, low));
}

pub tried_more : {A : Type 0} (spelled : A → List ℕ) (xs : List A) (index : ℕ) (d : A) (old now new : Walker) (w : List ℕ) →
    Tried spelled xs index d old now → w ≡ spelled (get_or xs index d) → Keeps now new → HasMarksOf now new →
    (past_word w (past_white (left now)) ≡ None) × (left new ≡ left now) → Tried spelled xs (index + 1) d old new
tried_more spelled xs index d old now new w t is k same p = record {
  keeps = keeps_then t.keeps k;
  here = p.1 ∙ t.here;
  same = same_then t.same same;
  before = λ j low. elim (cases_lt j index) [
    | inl l ↦ t.before j l
    | inr h ↦
        let last : index ≡ j = omega (arith, low, h) in
        subst (λ i. past_word (spelled (get_or xs i d)) (past_white (left old)) ≡ None) last
        (subst (λ v. past_word v (past_white (left old)) ≡ None) is
        (subst (λ z. past_word w (past_white z) ≡ None) t.here p.0))
  ];
}

pub tried_found : {A : Type 0} (wanted : Wanted) (spelled : A → List ℕ) (xs : List A) (index : ℕ) (d : A)
    (old now new : Walker) (w : List ℕ) →
    Tried spelled xs index d old now → index < length xs → w ≡ spelled (get_or xs index d) →
    past_word w (past_white (left now)) ≡ Some (left new) →
    Finds (among wanted spelled xs) old new (Some (get_or xs index d))
tried_found wanted spelled xs index d old now new w t low is p =
    among_found _ spelled xs index d (left old) (left new) low t.before
    (subst (λ v. past_word v (past_white (left old)) ≡ Some (left new)) is
    (subst (λ z. past_word w (past_white z) ≡ Some (left new)) t.here p))

pub tried_all : {A : Type 0} (wanted : Wanted) (spelled : A → List ℕ) (xs : List A) (index : ℕ) (d : A)
    (old now : Walker) →
    Tried spelled xs index d old now → length xs ≤ index → Finds (among wanted spelled xs) old now None
tried_all wanted spelled xs index d old now t low =
    among_nothing _ spelled xs d (left old) (λ k less. t.before k (omega (arith, low, less)))

-- the value that was found decides what is passed after it
pub walks_found : {A B : Type 0} (g : Grammar A) (f : A → Grammar B) (old mid new : Walker) (x : A) (ns : List Mark) →
    Keeps old mid → HasMarksOf old mid → Finds g old mid (Some x) → Walks (f x) mid new ns →
    Walks (sequence g f) old new ns
walks_found g f old mid new x ns k same e v =
    walks_by g f old mid new x ns (λ to y p. sym (one_found _ _ (sym (found g (left old) to y p) ∙ e)).1)
    (record {
      keeps = k;
      goes = λ to y p. (one_found _ _ (sym (found g (left old) to y p) ∙ e)).0;
      added = λ to y p fine. same.marks ∙ sym (append-nil old.marks.items);
    }) v

pub walks_unfound : {A B : Type 0} (g : Grammar A) (f : A → Grammar B) (old new : Walker) (ns : List Mark) →
    Keeps old new → Finds g old new None → Walks (sequence g f) old new ns
unfolding stands
walks_unfound g f old new ns k e = record {
  keeps = k;
  goes = λ to y p. absurd (let both = sym e ∙ found g (left old) p.0 p.1 p.2 in cc);
  added = λ to y p. absurd (let both = sym e ∙ found g (left old) p.0 p.1 p.2 in cc);
}

-- whether a word follows decides what is passed
ahead-is : (w from : List ℕ) (b : Bool) → b ≡ is_ahead w from → (to : List ℕ) (x : Bool) → stands (looks w) from to x → x ≡ b
unfolding read
ahead-is w from b e to x p =
    sym (one_found _ (record { value = is_ahead w from; left = from }) (sym (found (looks w) from to x p))).1 ∙ sym e

walks_look : (w : List ℕ) (now : Walker) → Walks (looks w) now now []
unfolding stands
walks_look w now = record {
  keeps = keeps_same now;
  goes = λ to x p. p.1;
  added = λ to x p f. sym (append-nil now.marks.items);
}

pub walks_looked : {B : Type 0} (w : List ℕ) (f : Bool → Grammar B) (old new : Walker) (b : Bool) (ns : List Mark) →
    b ≡ is_ahead w (left old) → Walks (f b) old new ns → Walks (sequence (looks w) f) old new ns
walks_looked w f old new b ns e v =
    walks_by (looks w) f old old new b ns (ahead-is w (left old) b e) (walks_look w old) v

pub walks_gerund : (old new : Walker) → Walks gerunds old new [] → (end : Walker) →
    Adds new end (mark new.text.now parts.Gerund (left_at new.text.now old.at) (left new) ∷ []) →
    Walks gerunds old end (mark old.text.now parts.Gerund (left old) (past gerunds (left old)) ∷ [])
walks_gerund old new g end one =
    walks_marks gerunds old new end [] (λ text from to. mark text parts.Gerund from to ∷ []) old.at g one

-- a word and a part after it
pub walks_worded : {B : Type 0} (w : List ℕ) (g : Grammar B) (old mid new : Walker) (marks : (text from : List ℕ) → List Mark) →
    Walks (word w) old mid [] → Walks g mid new (marks mid.text.now (left mid)) →
    Walks (sequence (word w) (λ u. g)) old new (marks old.text.now (past (word w) (left old)))
walks_worded w g old mid new marks p v =
    walks_then (word w) (λ u. g) old mid new [] _ p v.keeps
    (λ u s. walks_as g mid new _ _
    (ap (λ z. marks z (left mid)) (text-is p.keeps)
    ∙ ap (marks old.text.now) (sym (past-is (word w) (left old) (left mid) u s))) v)

-- a name and what follows it
pub walks_name_then : {B : Type 0} (kind : NameKind) (f : Name → Grammar B) (old a b c : Walker) (p : Position)
    (marks : (text from : List ℕ) → List Mark) → Walks number old a [] →
    Adds a b (mark a.text.now parts.Name (left_at a.text.now p) (left a) ∷ []) → Keeps b c →
    ((x : Name) → Walks (f x) b c (marks b.text.now (left b))) →
    Walks (sequence (named kind) f) old c
    (mark old.text.now parts.Name (left_at old.text.now p) (past (named kind) (left old))
    ∷ marks old.text.now (past (named kind) (left old)))
walks_name_then kind f old a b c p marks n name k v =
    let text : b.text.now ≡ old.text.now = text-is (keeps_then n.keeps (adds_keeps name)) in
    walks_then (named kind) f old a c [] _ (walks_named kind old a n) (keeps_then (adds_keeps name) k)
    (λ x s. let end = sym (past-is (named kind) (left old) (left a) x s) in
    walks_as (f x) a c _ _
    (ap (λ z. mark z parts.Name (left_at z p) (left a) ∷ marks b.text.now (left b)) (text-is n.keeps)
    ∙ ap (λ z. mark old.text.now parts.Name (left_at old.text.now p) z ∷ marks b.text.now (left b)) end
    ∙ ap (λ z. mark old.text.now parts.Name (left_at old.text.now p) (past (named kind) (left old)) ∷ marks z (left b)) text
    ∙ ap (λ z. mark old.text.now parts.Name (left_at old.text.now p) (past (named kind) (left old))
    ∷ marks old.text.now z) (left-same a b name.same_text name.same_place ∙ end))
    (adds_walks (f x) a b c _ _ name (v x)))

pub walks_scalar : (kind : NameKind) (old a b c d : Walker) (p : Position) →
    past_lead (left_at old.text.now p) ≡ left old → Walks number old a [] →
    Adds a b (mark a.text.now parts.Name (left_at a.text.now p) (left a) ∷ []) →
    Walks assigned b c (assigned_marks b.text.now (left b)) →
    Adds c d (mark c.text.now parts.Action (left_at c.text.now p) (left c) ∷ []) →
    Walks (scalar_bodies kind) old d (scalar_marks old.text.now kind (left_at old.text.now p))
unfolding scalar_bodies scalar_marks
walks_scalar kind old a b c d p begins n name value one =
    walks_as _ old d _ _
    (ap (λ z. mark old.text.now parts.Name (left_at old.text.now p) (past (named kind) z)
    ∷ assigned_marks old.text.now (past (named kind) z)
    ++ mark old.text.now parts.Action (left_at old.text.now p) (past (scalar_bodies kind) z) ∷ []) (sym begins))
    (walks_marks _ old c d _ (λ text from to. mark text parts.Action from to ∷ []) p
    (walks_name_then kind _ old a b c p assigned_marks n name value.keeps
    (λ x. walks_made assigned _ b c _ value)) one)

pub walks_array : (kind : NameKind) (old a b c d : Walker) (p : Position) →
    past_lead (left_at old.text.now p) ≡ left old → Walks number old a [] →
    Adds a b (mark a.text.now parts.Name (left_at a.text.now p) (left a) ∷ []) →
    ((x : Name) → Walks (sequence (looks (codes "SUB")) (array_by x)) b c
    (target_marks b.text.now (is_ahead (codes "SUB") (left b)) (left b))) → Keeps b c →
    Adds c d (mark c.text.now parts.Action (left_at c.text.now p) (left c) ∷ []) →
    Walks (array_bodies kind) old d (array_marks old.text.now kind (left_at old.text.now p))
unfolding array_bodies array_marks
walks_array kind old a b c d p begins n name value k one =
    walks_as _ old d _ _
    (ap (λ z. mark old.text.now parts.Name (left_at old.text.now p) (past (named kind) z)
    ∷ target_marks old.text.now (is_ahead (codes "SUB") (past (named kind) z)) (past (named kind) z)
    ++ mark old.text.now parts.Action (left_at old.text.now p) (past (array_bodies kind) z) ∷ []) (sym begins))
    (walks_marks _ old c d _ (λ text from to. mark text parts.Action from to ∷ []) p
    (walks_name_then kind _ old a b c p (λ text from. target_marks text (is_ahead (codes "SUB") from) from) n name k value)
    one)

pub walks_call : (old a b c : Walker) →
    Walks labels old a (mark old.text.now parts.Label (left old) (past labels (left old)) ∷ []) →
    Walks (word (codes "NEXT")) a b [] →
    Adds b c (mark b.text.now parts.Action (left_at b.text.now old.at) (left b) ∷ []) →
    Walks calls old c (call_marks old.text.now (left old))
unfolding calls call_marks
walks_call old a b c l w one =
    walks_marks calls old b c _ (λ text from to. mark text parts.Action from to ∷ []) old.at
    (walks_end labels _ old a b _ l w.keeps (λ n. walks_made (word (codes "NEXT")) _ a b [] w)) one

pub pick_yes : {A : Type 0} (b : Bool) → b ≡ true → (g h : Grammar A) (old new : Walker) (ms : List Mark) →
    Walks g old new ms → Walks (pick b g h) old new ms
pick_yes true e g h old new ms w = w
pick_yes false e g h old new ms w = absurd cc

pub pick_no : {A : Type 0} (b : Bool) → b ≡ false → (g h : Grammar A) (old new : Walker) (ms : List Mark) →
    Walks h old new ms → Walks (pick b g h) old new ms
pick_no true e g h old new ms w = absurd cc
pick_no false e g h old new ms w = w

other_place : (old a c : Walker) (p : Position) (printed : Bool) (l : Lead) → past_lead (left_at old.text.now p) ≡ left old →
    ((k : NameKind) → l ≡ Array k → ⊥) → Walks number old a [] →
    Adds a c (acted_marks a.text.now parts.Variable printed (left_at a.text.now p) (left a)) →
    Walks (place_by l) old c (place_marks_by old.text.now printed (left_at old.text.now p) l)
other_place old a c p printed (Spot k) begins never n one =
    walks_as _ old c _ _
    (ap (λ z. acted_marks old.text.now parts.Variable printed (left_at old.text.now p) (past (place_by (Spot k)) z)) (sym begins))
    (walks_marks (place_by (Spot k)) old a c [] (λ text from to. acted_marks text parts.Variable printed from to) p
    (walks_made (named k) _ old a [] (walks_named k old a n)) one)
other_place old a c p printed (Array k) begins never n one = absurd (never k refl)
other_place old a c p printed Hash begins never n one = walks_nothing old c _ (keeps_then n.keeps (adds_keeps one))
other_place old a c p printed (Group q) begins never n one = walks_nothing old c _ (keeps_then n.keeps (adds_keeps one))
other_place old a c p printed (Unary o) begins never n one = walks_nothing old c _ (keeps_then n.keeps (adds_keeps one))
other_place old a c p printed (Binary o) begins never n one = walks_nothing old c _ (keeps_then n.keeps (adds_keeps one))
other_place old a c p printed Other begins never n one = walks_nothing old c _ (keeps_then n.keeps (adds_keeps one))

pub walks_spot : (old a c : Walker) (p : Position) (printed : Bool) (l : Lead) → past_lead (left_at old.text.now p) ≡ left old →
    ((k : NameKind) → l ≡ Array k → ⊥) → Walks number old a [] →
    Adds a c (acted_marks a.text.now parts.Variable printed (left_at a.text.now p) (left a)) →
    Walks (place_by l) old c (place_marks_by old.text.now printed (left_at old.text.now p) l)
walks_spot = other_place

-- a whole array, or an element: what is there decides the marks
array_as : (kind : NameKind) (old a new : Walker) (p : Position) (printed : Bool) (l : Lead) (b t : Bool) (ms : List Mark) →
    past_lead (left_at old.text.now p) ≡ left old → l ≡ Array kind → Walks number old a [] →
    b ≡ is_ahead (codes "SUB") (left a) → is_tail kind && not b ≡ t →
    ms ≡ array_place_marks old.text.now printed t (left_at old.text.now p) (past (named kind) (left old))
    (past (place_by (Array kind)) (left old)) →
    Walks (place_by (Array kind)) old new ms →
    Walks (place_by l) old new (place_marks_by old.text.now printed (left_at old.text.now p) l)
unfolding stands
array_as kind old a new p printed l b t ms begins is n sees whole same w =
    let F = left_at old.text.now p in
    subst (λ z. Walks (place_by z) old new (place_marks_by old.text.now printed F z)) (sym is)
    (walks_as _ old new _ _
    (ap (λ z. array_place_marks old.text.now printed (is_tail kind && not (is_ahead (codes "SUB") (past (named kind) z))) F
    (past (named kind) z) (past (place_by (Array kind)) z)) (sym begins))
    (walks_as_if _ old new _ _
    (λ to x q.
    let end = past-is (named kind) (left old) q.0 q.1 q.2 in
    let here : past (named kind) (left old) ≡ left a =
    end ∙ sym ((walks_named kind old a n).goes q.0 q.1 q.2) in
    same
    ∙ ap (λ z. array_place_marks old.text.now printed z F (past (named kind) (left old)) (past (place_by (Array kind)) (left old)))
    (sym whole ∙ ap (λ z. is_tail kind && not z) (sees ∙ ap (is_ahead (codes "SUB")) (sym here)))) w))

pub walks_whole : (kind : NameKind) (old a c : Walker) (p : Position) (printed : Bool) (l : Lead) (b : Bool) →
    past_lead (left_at old.text.now p) ≡ left old → l ≡ Array kind → Walks number old a [] →
    b ≡ is_ahead (codes "SUB") (left a) → is_tail kind && not b ≡ true →
    Adds a c (mark a.text.now parts.Action (left_at a.text.now p) (left a) ∷ []) →
    Walks (place_by l) old c (place_marks_by old.text.now printed (left_at old.text.now p) l)
walks_whole kind old a c p printed l b begins is n sees whole one =
    array_as kind old a c p printed l b true _ begins is n sees whole refl
    (walks_marks (place_by (Array kind)) old a c [] (λ text from to. mark text parts.Action from to ∷ []) p
    (walks_end (named kind) _ old a a [] (walks_named kind old a n) (keeps_same a)
    (λ x. walks_looked (codes "SUB") (array_place kind x) a a b [] sees
    (pick_yes _ whole _ _ a a [] (walks_yields _ a)))) one)

pub walks_element_place : (kind : NameKind) (old a c d e : Walker) (p : Position) (printed : Bool) (l : Lead) (b : Bool) →
    past_lead (left_at old.text.now p) ≡ left old → l ≡ Array kind → Walks number old a [] →
    b ≡ is_ahead (codes "SUB") (left a) → is_tail kind && not b ≡ false →
    Adds a c (mark a.text.now parts.Name (left_at a.text.now p) (left a) ∷ []) →
    Walks indices c d (index_marks c.text.now (left c)) →
    Adds d e (acted_marks d.text.now parts.Element printed (left_at d.text.now p) (left d)) →
    Walks (place_by l) old e (place_marks_by old.text.now printed (left_at old.text.now p) l)
walks_element_place kind old a c d e p printed l b begins is n sees whole name subs one =
    array_as kind old a e p printed l b false _ begins is n sees whole refl
    (walks_marks (place_by (Array kind)) old d e _ (λ text from to. acted_marks text parts.Element printed from to) p
    (walks_name_then kind _ old a c d p index_marks n name subs.keeps
    (λ x. walks_looked (codes "SUB") (array_place kind x) c d b _
    (sees ∙ ap (is_ahead (codes "SUB")) (sym (left-same a c name.same_text name.same_place)))
    (pick_no _ whole _ _ c d _ (walks_made indices _ c d _ subs)))) one)

pub walks_place : (old a b : Walker) (l : Lead) → l ≡ next_lead (left old) → Walks sign old a [] →
    Walks (place_by l) a b (place_marks_by a.text.now false (left_at a.text.now old.at) l) →
    Walks places old b (place_marks_by old.text.now false (left old) (next_lead (left old)))
unfolding places
walks_place old a b l e s w =
    walks_as _ old b _ _
    (ap (λ z. place_marks_by z false (left_at z old.at) l) (text-is s.keeps)
    ∙ ap (place_marks_by old.text.now false (left old)) e)
    (walks_by sign place_by old a b l _ (sign-is (left old) l e) s w)

pub walks_hash : (old a b c : Walker) (l : Lead) → l ≡ next_lead (left old) → l ≡ Hash → Walks sign old a [] →
    left a ≡ past_lead (left old) → Walks number a b [] →
    Adds b c (acted_marks b.text.now parts.Mesh true (left_at b.text.now old.at) (left b)) →
    Walks items old c (item_marks_by old.text.now (left old) (next_lead (left old)))
unfolding items
walks_hash old a b c l e is s goes n one =
    walks_as _ old c _ _
    (ap (λ z. acted_marks z parts.Mesh true (left_at z old.at) (past number (left a))) (text-is s.keeps)
    ∙ ap (λ z. acted_marks old.text.now parts.Mesh true (left old) (past number z)) goes
    ∙ ap (item_marks_by old.text.now (left old)) (sym is ∙ e))
    (walks_by sign item_by old a c Hash _ (sign-is (left old) Hash (sym is ∙ e)) s
    (walks_made number _ a c _
    (walks_marks number a b c [] (λ text from to. acted_marks text parts.Mesh true from to) old.at n one)))

item_as : (text from : List ℕ) (l : Lead) → (l ≡ Hash → ⊥) → place_marks_by text true from l ≡ item_marks_by text from l
item_as text from (Spot k) n = refl
item_as text from (Array k) n = refl
item_as text from Hash n = absurd (n refl)
item_as text from (Group q) n = refl
item_as text from (Unary o) n = refl
item_as text from (Binary o) n = refl
item_as text from Other n = refl

item_place : (l : Lead) (old new : Walker) (ms : List Mark) → (l ≡ Hash → ⊥) → Walks (place_by l) old new ms →
    Walks (item_by l) old new ms
item_place (Spot k) old new ms n w = w
item_place (Array k) old new ms n w = w
item_place Hash old new ms n w = absurd (n refl)
item_place (Group q) old new ms n w = walks_nothing old new ms w.keeps
item_place (Unary o) old new ms n w = walks_nothing old new ms w.keeps
item_place (Binary o) old new ms n w = walks_nothing old new ms w.keeps
item_place Other old new ms n w = walks_nothing old new ms w.keeps

pub walks_item : (old a b : Walker) (l : Lead) → l ≡ next_lead (left old) → (l ≡ Hash → ⊥) → Walks sign old a [] →
    Walks (place_by l) a b (place_marks_by a.text.now true (left_at a.text.now old.at) l) →
    Walks items old b (item_marks_by old.text.now (left old) (next_lead (left old)))
unfolding items
walks_item old a b l e never s w =
    walks_as _ old b _ _
    (ap (λ z. place_marks_by z true (left_at z old.at) l) (text-is s.keeps)
    ∙ item_as old.text.now (left old) l never ∙ ap (item_marks_by old.text.now (left old)) e)
    (walks_by sign item_by old a b l _ (sign-is (left old) l e) s (item_place l a b _ never w))

-- subscripts whose marks are appended after those of the value
pub walks_value : (make : Trees → Tree → BodyTree) (old s t a b c : Walker) → s.text ≡ old.text → s.at ≡ old.at →
    s.marks.items ≡ [] → s.refused ≡ old.refused → Walks indices s t (index_marks s.text.now (left s)) →
    a.text ≡ old.text → a.at ≡ t.at → a.marks.items ≡ old.marks.items → a.refused ≡ t.refused →
    Walks assigned a b (assigned_marks a.text.now (left a)) → Adds b c t.marks.items →
    Walks (element_values make) old c (target_marks old.text.now true (left old))
unfolding stands
walks_value make old s t a b c text_s at_s none refused_s subs text_a at_a same refused_a value one =
    let begins : left s ≡ left old = left-same old s text_s at_s in
    let here : left a ≡ left t = left-same t a (text_a ∙ sym text_s ∙ sym subs.keeps.same_text) at_a in
    let before : a.refused ≡ false → s.refused ≡ false = (λ f. subs.keeps.fine (sym refused_a ∙ f)) in
    let passed : Walks indices old a [] = record {
      keeps = record {
        same_text = text_a;
        fine = λ f. sym refused_s ∙ before f;
        within = omega (arith, ap length here, ap length begins, subs.keeps.within);
      };
      goes = λ to x p. here ∙ subs.goes to x (subst (λ z. stands indices z to x) (sym begins) p);
      added = λ to x p f. same ∙ sym (append-nil old.marks.items);
    } in
    walks_as_fine _ old c _ _
    (λ to x p fine.
    let marks = subs.added p.0 p.1 (subst (λ z. stands indices z p.0 p.1) (sym begins) p.2)
    (sym refused_a ∙ value.keeps.fine (one.fine fine)) in
    ap (λ z. assigned_marks old.text.now (past indices (left old)) ++ z)
    (marks ∙ ap (λ z. z ++ index_marks s.text.now (left s)) none
    ∙ ap (λ z. index_marks z.now (left s)) text_s ∙ ap (index_marks old.text.now) begins))
    (walks_adds (element_values make) old b c _ t.marks.items
    (walks_then indices _ old a b [] (assigned_marks old.text.now (past indices (left old))) passed value.keeps
    (λ ts q. walks_as _ a b _ _
    (ap (λ z. assigned_marks z.now (left a)) text_a
    ∙ ap (assigned_marks old.text.now) (sym (past-is indices (left old) (left a) ts q)))
    (walks_made assigned _ a b _ value))) one)

-- a label or gerunds, and what is made of them
pub walks_labelled : (make : ℕ → BodyTree) (f : Bool → Grammar BodyTree) (old a b : Walker) (p : Position) (t : Bool) →
    f true ≡ sequence labels (λ n. yields (make n)) → t ≡ true → t ≡ is_ahead (codes "(") (left old) →
    Walks labels old a (mark old.text.now parts.Label (left old) (past labels (left old)) ∷ []) →
    Adds a b (mark a.text.now parts.Action (left_at a.text.now p) (left a) ∷ []) →
    Walks (sequence (looks (codes "(")) f) old b
    (switch_marks old.text.now (is_ahead (codes "(") (left old)) (left_at old.text.now p) (left old))
walks_labelled make f old a b p t is sees e l one =
    walks_as _ old b _ _
    (ap (λ z. switch_marks old.text.now z (left_at old.text.now p) (left old)) (sym sees ∙ e))
    (walks_looked (codes "(") f old b true _ (sym sees ∙ e)
    (subst (λ z. Walks z old b (switch_marks old.text.now true (left_at old.text.now p) (left old))) (sym is)
    (walks_made labels make old b _
    (walks_marks labels old a b _ (λ text from to. mark text parts.Action from to ∷ []) p l one))))

pub walks_gerunds : (make : List Gerund → BodyTree) (f : Bool → Grammar BodyTree) (old b : Walker) (p : Position) (t : Bool) →
    f false ≡ sequence (separated gerunds (codes "+")) (λ gs. yields (make gs)) → t ≡ false →
    t ≡ is_ahead (codes "(") (left old) →
    Walks (separated gerunds (codes "+")) old b (list_marks old.text.now members.Gerund (codes "+") (left old)) →
    Walks (sequence (looks (codes "(")) f) old b
    (switch_marks old.text.now (is_ahead (codes "(") (left old)) (left_at old.text.now p) (left old))
walks_gerunds make f old b p t is sees e l =
    walks_as _ old b _ _
    (ap (λ z. switch_marks old.text.now z (left_at old.text.now p) (left old)) (sym sees ∙ e))
    (walks_looked (codes "(") f old b false _ (sym sees ∙ e)
    (subst (λ z. Walks z old b (list_marks old.text.now members.Gerund (codes "+") (left old))) (sym is)
    (walks_made (separated gerunds (codes "+")) make old b _ l)))

-- a word and what follows it, if the marks of that are those of a body that begins at a position
pub walks_word_body : {B : Type 0} (w : List ℕ) (g : Grammar B) (old mid new : Walker) (p : Position)
    (marks : (text from here : List ℕ) → List Mark) → Walks (word w) old mid [] →
    Walks g mid new (marks mid.text.now (left_at mid.text.now p) (left mid)) →
    Walks (sequence (word w) (λ u. g)) old new (marks old.text.now (left_at old.text.now p) (past (word w) (left old)))
walks_word_body w g old mid new p marks first v =
    walks_worded w g old mid new (λ text from. marks text (left_at text p) from) first v

pub walks_give : (old mid new : Walker) (p : Position) → Walks (word (codes "UP")) old mid [] →
    Adds mid new (mark mid.text.now parts.Action (left_at mid.text.now p) (left mid) ∷ []) → (t : BodyTree) →
    Walks (sequence (word (codes "UP")) (λ u. yields t)) old new
    (mark old.text.now parts.Action (left_at old.text.now p) (past (word (codes "UP")) (left old)) ∷ [])
walks_give old mid new p w one t =
    walks_made (word (codes "UP")) (λ u. t) old new _
    (walks_marks (word (codes "UP")) old mid new [] (λ text from to. mark text parts.Action from to ∷ []) p w one)

-- a verb and the rest of its body
pub walks_verb : (old mid new : Walker) (v : Verb) → Keeps old mid → HasMarksOf old mid → Finds verbs old mid (Some v) →
    Walks (after v) mid new (after_marks mid.text.now v (left_at mid.text.now old.at) (left mid)) →
    Walks (sequence verbs after) old new (verb_marks old.text.now (left old) (read verbs (left old)))
walks_verb old mid new v k same e w =
    walks_as _ old new _ _
    (ap (λ z. after_marks z v (left_at z old.at) (left mid)) (text-is k)
    ∙ ap (verb_marks old.text.now (left old)) (sym e))
    (walks_found verbs after old mid new v _ k same e w)

other_body : (l : Lead) (old new : Walker) (ms : List Mark) → ((k : NameKind) → l ≡ Spot k → ⊥) →
    ((k : NameKind) → l ≡ Array k → ⊥) → Walks (sequence (looks (codes "(")) worded_by) old new ms →
    Walks (body_by l) old new ms
other_body (Spot k) old new ms a b w = absurd (a k refl)
other_body (Array k) old new ms a b w = absurd (b k refl)
other_body Hash old new ms a b w = w
other_body (Group q) old new ms a b w = w
other_body (Unary o) old new ms a b w = w
other_body (Binary o) old new ms a b w = w
other_body Other old new ms a b w = w

other_marks : (text from : List ℕ) (l : Lead) → ((k : NameKind) → l ≡ Spot k → ⊥) → ((k : NameKind) → l ≡ Array k → ⊥) →
    worded_marks text (is_ahead (codes "(") from) from ≡ body_marks_by text from l
other_marks text from (Spot k) a b = absurd (a k refl)
other_marks text from (Array k) a b = absurd (b k refl)
other_marks text from Hash a b = refl
other_marks text from (Group q) a b = refl
other_marks text from (Unary o) a b = refl
other_marks text from (Binary o) a b = refl
other_marks text from Other a b = refl

pub walks_words : (old new : Walker) (l : Lead) → l ≡ next_lead (left old) → ((k : NameKind) → l ≡ Spot k → ⊥) →
    ((k : NameKind) → l ≡ Array k → ⊥) →
    Walks (sequence (looks (codes "(")) worded_by) old new
    (worded_marks old.text.now (is_ahead (codes "(") (left old)) (left old)) →
    Walks bodies old new (body_marks old.text.now (left old))
unfolding bodies body_marks
walks_words old new l e a b w =
    walks_as _ old new _ _
    (other_marks old.text.now (left old) l a b ∙ ap (body_marks_by old.text.now (left old)) e)
    (walks_by next body_by old old new l _ (next-is (left old) l e) (walks_next old) (other_body l old new _ a b w))

pub walks_spot_body : (old mid new : Walker) (l : Lead) (k : NameKind) → l ≡ next_lead (left old) → l ≡ Spot k →
    Walks sign old mid [] →
    Walks (scalar_bodies k) mid new (scalar_marks mid.text.now k (left_at mid.text.now old.at)) →
    Walks bodies old new (body_marks old.text.now (left old))
unfolding bodies body_marks
walks_spot_body old mid new l k e is s w =
    walks_as _ old new _ _
    (ap (λ z. scalar_marks z k (left_at z old.at)) (text-is s.keeps)
    ∙ ap (body_marks_by old.text.now (left old)) (sym is ∙ e))
    (walks_by next body_by old old new (Spot k) _ (next-is (left old) (Spot k) (sym is ∙ e)) (walks_next old)
    (walks_then sign (λ u. scalar_bodies k) old mid new [] _ s w.keeps (λ u p. w)))

pub walks_array_body : (old mid new : Walker) (l : Lead) (k : NameKind) → l ≡ next_lead (left old) → l ≡ Array k →
    Walks sign old mid [] →
    Walks (array_bodies k) mid new (array_marks mid.text.now k (left_at mid.text.now old.at)) →
    Walks bodies old new (body_marks old.text.now (left old))
unfolding bodies body_marks
walks_array_body old mid new l k e is s w =
    walks_as _ old new _ _
    (ap (λ z. array_marks z k (left_at z old.at)) (text-is s.keeps)
    ∙ ap (body_marks_by old.text.now (left old)) (sym is ∙ e))
    (walks_by next body_by old old new (Array k) _ (next-is (left old) (Array k) (sym is ∙ e)) (walks_next old)
    (walks_then sign (λ u. array_bodies k) old mid new [] _ s w.keeps (λ u p. w)))
