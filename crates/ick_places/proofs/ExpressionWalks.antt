-- Walks over expressions.
use Rattle.std.proofs.Common.{◌≡◌, ℕ, zero, suc, ◌-◌, ◌≤◌, ◌<◌, nat_le, List, [], ◌∷◌, ◌++◌, length, Option, Some}
use Rattle.std.proofs.Common.{refl, sym, ap, subst, ◌∙◌, arith, codes}
use Rattle.std.proofs.lemmas.List.{append_assoc}
use Rattle.ick_places.specs.declared.mark.Mark.{Mark}
use Rattle.ick_places.specs.declared.mark.Part.TheVariants as parts
use Rattle.ick_places.specs.declared.walker.Walker.{Walker}
use Rattle.ick_places.specs.Expressions.{LevelMarks, operator_marks, applied_marks, leaf_part, leaf_marks, group_marks}
use Rattle.ick_places.specs.Expressions.{indexing_marks, element_marks, operand_marks_by, operand_marks, right_marks_by}
use Rattle.ick_places.specs.Expressions.{expression_marks, level_marks}
use Rattle.ick_places.specs.Marks.{mark, past, repeated_marks}
use Rattle.ick_places.specs.Walks.{left, Keeps, Adds, Walks}
use Rattle.ick_places.proofs.WalkLemmas.{keeps_same, keeps_then, adds_keeps, walks_yields, walks_nothing}
use Rattle.ick_places.proofs.WalkLemmas.{walks_when, walks_then, walks_by, walks_made, walks_next, next-is, sign-is}
use Rattle.ick_places.proofs.WalkLemmas.{adds_walks, walks_marks, walks_end, walks_as, walks_as_if, past-is, text-is, left-same}
use Rattle.ick_source.specs.declared.lead.Delimiter.{Delimiter}
use Rattle.ick_source.specs.declared.lead.Lead.{Lead}
use Rattle.ick_source.specs.declared.lead.Lead.TheVariants.{Spot, Array, Hash, Group, Unary, Binary, Other}
use Rattle.ick_source.specs.declared.position.Position.{Position}
use Rattle.ick_source.specs.Expression.{Sized, Level, level, unaries, is_group, closing, closings, leaves, groups, elements}
use Rattle.ick_source.specs.Expression.{further, indexing, subscripts, operand_by, operands_over, right_by, expressions_over}
use Rattle.ick_source.specs.Grammar.{Grammar, sign, word, number, next, yields, stands}
use Rattle.ick_source.specs.Position.{left_at, next_lead, past_lead, past_white, first_lead, later_characters}
use Rattle.ick_source.proofs.TokenShorter.{length-past_white}
use Rattle.ick_syntax.specs.Tree.{Tree}
use Rattle.ick_syntax.specs.declared.tree.BinaryOp.{BinaryOp}
use Rattle.ick_syntax.specs.declared.tree.NameKind.{NameKind}

closed : (q : Delimiter) (l : Lead) (now : Walker) → Walks (closing q l) now now []
closed q l now = walks_when _ (is_group q l) (yields tt) now now [] (walks_yields tt now)

pub closes : (q : Delimiter) (old new : Walker) → Walks sign old new [] → Walks (closings q) old new []
unfolding closings
closes q old new w = walks_end sign (closing q) old new new [] w (keeps_same new) (λ l. closed q l new)

-- the marks of a leaf that are made one after another
pub leaf_is : (text : List ℕ) (kind : Option NameKind) (from here : List ℕ) → past_lead from ≡ here →
    operator_marks text here (next_lead here) ++ mark text (leaf_part kind) from (past (leaves kind) here) ∷ []
    ++ applied_marks text from (past (leaves kind) here) (next_lead here) ≡ leaf_marks text kind from
unfolding leaf_marks
leaf_is text kind from here e =
    append_assoc (operator_marks text here (next_lead here)) _ _
    ∙ ap (λ z. operator_marks text z (next_lead z) ++ mark text (leaf_part kind) from (past (leaves kind) z)
    ∷ applied_marks text from (past (leaves kind) z) (next_lead z)) (sym e)

pub group_is : (text : List ℕ) (below : Level) (inner : LevelMarks) (q : Delimiter) (from here : List ℕ) →
    past_lead from ≡ here →
    operator_marks text here (next_lead here) ++ inner.expressions (Some q) (past unaries here)
    ++ mark text parts.Group from (past (groups below q) here) ∷ []
    ++ applied_marks text from (past (groups below q) here) (next_lead here)
    ≡ group_marks text below inner q from
unfolding group_marks
group_is text below inner q from here e =
    append_assoc (operator_marks text here (next_lead here) ++ inner.expressions (Some q) (past unaries here)) _ _
    ∙ ap (λ z. operator_marks text z (next_lead z) ++ inner.expressions (Some q) (past unaries z)
    ++ mark text parts.Group from (past (groups below q) z)
    ∷ applied_marks text from (past (groups below q) z) (next_lead z)) (sym e)

pub walks_leaf : (kind : Option NameKind) (old a b c d : Walker) (l : Lead) (p : Position) →
    past_lead (left_at old.text.now p) ≡ left old → l ≡ next_lead (left old) →
    Walks unaries old a (operator_marks old.text.now (left old) (next_lead (left old))) → Walks number a b [] →
    Adds b c (mark b.text.now (leaf_part kind) (left_at b.text.now p) (left b) ∷ []) →
    Adds c d (applied_marks c.text.now (left_at c.text.now p) (left c) l) →
    Walks (leaves kind) old d (leaf_marks old.text.now kind (left_at old.text.now p))
unfolding leaves
walks_leaf kind old a b c d l p begins e op n one more =
    walks_as _ old d _ _
    (ap (λ z. operator_marks old.text.now (left old) (next_lead (left old))
    ++ mark old.text.now (leaf_part kind) (left_at old.text.now p) (past (leaves kind) (left old)) ∷ []
    ++ applied_marks old.text.now (left_at old.text.now p) (past (leaves kind) (left old)) z) e
    ∙ leaf_is old.text.now kind (left_at old.text.now p) (left old) begins)
    (walks_marks _ old c d _ (λ text from to. applied_marks text from to l) p
    (walks_marks _ old b c _ (λ text from to. mark text (leaf_part kind) from to ∷ []) p
    (walks_end unaries _ old a b _ op n.keeps (λ o. walks_made number _ a b [] n)) one) more)

pub walks_group : (below : ℕ) (q : Delimiter) (old a b c d e : Walker) (l : Lead) (p : Position) →
    past_lead (left_at old.text.now p) ≡ left old → l ≡ next_lead (left old) →
    Walks unaries old a (operator_marks old.text.now (left old) (next_lead (left old))) →
    Walks ((level below).expressions (Some q)) a b ((level_marks a.text.now below).expressions (Some q) (left a)) →
    Walks (closings q) b c [] →
    Adds c d (mark c.text.now parts.Group (left_at c.text.now p) (left c) ∷ []) →
    Adds d e (applied_marks d.text.now (left_at d.text.now p) (left d) l) →
    Walks (groups (level below) q) old e
    (group_marks old.text.now (level below) (level_marks old.text.now below) q (left_at old.text.now p))
unfolding groups
walks_group below q old a b c d e l p begins is op inner close one more =
    walks_as _ old e _ _
    (ap (λ z. operator_marks old.text.now (left old) (next_lead (left old))
    ++ (level_marks old.text.now below).expressions (Some q) (past unaries (left old))
    ++ mark old.text.now parts.Group (left_at old.text.now p) (past (groups (level below) q) (left old)) ∷ []
    ++ applied_marks old.text.now (left_at old.text.now p) (past (groups (level below) q) (left old)) z) is
    ∙ group_is old.text.now (level below) (level_marks old.text.now below) q (left_at old.text.now p) (left old) begins)
    (walks_marks _ old d e _ (λ text from to. applied_marks text from to l) p
    (walks_marks _ old c d _ (λ text from to. mark text parts.Group from to ∷ []) p
    (walks_then unaries _ old a c _ ((level_marks old.text.now below).expressions (Some q) (past unaries (left old))) op
    (keeps_then inner.keeps close.keeps)
    (λ o s. walks_as _ a c _ _
    (ap (λ z. (level_marks z below).expressions (Some q) (left a)) (text-is op.keeps)
    ∙ ap (λ z. (level_marks old.text.now below).expressions (Some q) z) (sym (past-is unaries (left old) (left a) o s)))
    (walks_end _ _ a b c _ inner close.keeps (λ t. walks_made (closings q) _ b c [] close)))) one) more)

pub walks_indexing : (below : ℕ) (m : Option Delimiter) (old a b : Walker) → Walks (word (codes "SUB")) old a [] →
    Walks (subscripts (level below) m) a b
    (repeated_marks ((level below).operands m) ((level_marks a.text.now below).operands m) (further m) (left a)) →
    Walks (indexing (level below) m) old b
    (indexing_marks (level below) (level_marks old.text.now below) m (left old))
unfolding indexing indexing_marks
walks_indexing below m old a b w v =
    walks_then _ _ old a b [] _ w v.keeps
    (λ u s. walks_as _ a b _ _
    (ap (λ z. repeated_marks ((level below).operands m) ((level_marks z below).operands m) (further m) (left a)) (text-is w.keeps)
    ∙ ap (λ z. repeated_marks ((level below).operands m) ((level_marks old.text.now below).operands m) (further m) z)
    (sym (past-is (word (codes "SUB")) (left old) (left a) u s))) v)

pub walks_element : (below : ℕ) (m : Option Delimiter) (kind : NameKind) (old a b c d : Walker) (p : Position) →
    past_lead (left_at old.text.now p) ≡ left old →
    Walks number old a [] →
    Adds a b (mark a.text.now parts.Name (left_at a.text.now p) (left a) ∷ []) →
    Walks (indexing (level below) m) b c (indexing_marks (level below) (level_marks b.text.now below) m (left b)) →
    Adds c d (mark c.text.now parts.Element (left_at c.text.now p) (left c) ∷ []) →
    Walks (elements (level below) m kind) old d
    (element_marks old.text.now (level below) (level_marks old.text.now below) m kind (left_at old.text.now p))
unfolding elements element_marks
walks_element below m kind old a b c d p begins n name subs one =
    let text : b.text.now ≡ old.text.now = text-is (keeps_then n.keeps (adds_keeps name)) in
    walks_as _ old d _ _
    (ap (λ z. mark old.text.now parts.Name (left_at old.text.now p) (past number z)
    ∷ indexing_marks (level below) (level_marks old.text.now below) m (past number z)
    ++ mark old.text.now parts.Element (left_at old.text.now p) (past (elements (level below) m kind) z) ∷ []) (sym begins))
    (walks_marks _ old c d _ (λ text from to. mark text parts.Element from to ∷ []) p
    (walks_then number _ old a c [] _ n (keeps_then (adds_keeps name) subs.keeps)
    (λ v s. walks_as _ a c _ _
    (let end = sym (past-is number (left old) (left a) v s) in
    ap (λ z. mark z parts.Name (left_at z p) (left a) ∷ indexing_marks (level below) (level_marks b.text.now below) m (left b))
    (text-is n.keeps)
    ∙ ap (λ z. mark old.text.now parts.Name (left_at old.text.now p) z
    ∷ indexing_marks (level below) (level_marks b.text.now below) m (left b)) end
    ∙ ap (λ z. mark old.text.now parts.Name (left_at old.text.now p) (past number (left old))
    ∷ indexing_marks (level below) (level_marks z below) m (left b)) text
    ∙ ap (λ z. mark old.text.now parts.Name (left_at old.text.now p) (past number (left old))
    ∷ indexing_marks (level below) (level_marks old.text.now below) m z)
    (left-same a b name.same_text name.same_place ∙ end))
    (adds_walks _ a b c _ _ name (walks_made (indexing (level below) m) _ b c _ subs)))) one)

pub no_operand : (limit : ℕ) (m : Option Delimiter) → limit ≡ 0 → (from to : List ℕ) (x : Sized Tree) →
    stands ((level limit).operands m) from to x → ⊥
unfolding level stands
no_operand limit m e from to x p = rw e at p

pub no_expression : (limit : ℕ) (m : Option Delimiter) → limit ≡ 0 → (from to : List ℕ) (x : Sized Tree) →
    stands ((level limit).expressions m) from to x → ⊥
unfolding level stands
no_expression limit m e from to x p = rw e at p

-- a walk over what doesn't stand there
pub walks_never : {A : Type 0} (g : Grammar A) (old new : Walker) (ms : List Mark) → Keeps old new →
    ((to : List ℕ) (x : A) → stands g (left old) to x → ⊥) → Walks g old new ms
walks_never g old new ms k never = record {
  keeps = k;
  goes = λ to x p. absurd (never to x p);
  added = λ to x p fine. absurd (never to x p);
}

pub above : (limit : ℕ) → 0 < limit → suc (limit - 1) ≡ limit
above limit low = omega (arith, low)

pub walks_operand : (limit : ℕ) (m : Option Delimiter) (old mid new : Walker) (l begins : Lead) (ms : List Mark) →
    0 < limit → l ≡ next_lead (left old) → l ≡ begins → Walks sign old mid [] →
    Walks (operand_by (level (limit - 1)) m begins) mid new ms →
    ms ≡ operand_marks_by old.text.now (level (limit - 1)) (level_marks old.text.now (limit - 1)) m (left old) begins →
    Walks ((level limit).operands m) old new ((level_marks old.text.now limit).operands m (left old))
unfolding level operands_over level_marks operand_marks
walks_operand limit m old mid new l begins ms low e is s w marks =
    subst (λ z. Walks ((level z).operands m) old new ((level_marks old.text.now z).operands m (left old)))
    (above limit low)
    (walks_as _ old new _ _
    (marks
    ∙ ap (operand_marks_by old.text.now (level (limit - 1)) (level_marks old.text.now (limit - 1)) m (left old))
    (sym is ∙ e))
    (walks_by sign (operand_by (level (limit - 1)) m) old mid new begins ms (sign-is (left old) begins (sym is ∙ e)) s w))

never_by : (below : Level) (m : Option Delimiter) (l : Lead) → ((k : NameKind) → l ≡ Spot k → ⊥) → (l ≡ Hash → ⊥) →
    ((k : NameKind) → l ≡ Array k → ⊥) → ((q : Delimiter) → l ≡ Group q → ⊥) → (from to : List ℕ) (x : Sized Tree) →
    stands (operand_by below m l) from to x → ⊥
unfolding stands
never_by below m (Spot k) a b c d from to x p = a k refl
never_by below m Hash a b c d from to x p = b refl
never_by below m (Array k) a b c d from to x p = c k refl
never_by below m (Group q) a b c d from to x p = d q refl
never_by below m (Unary o) a b c d from to x p = p
never_by below m (Binary o) a b c d from to x p = p
never_by below m Other a b c d from to x p = p

pub other_operand : (limit : ℕ) (m : Option Delimiter) (from : List ℕ) (l : Lead) → 0 < limit → l ≡ next_lead from →
    ((k : NameKind) → l ≡ Spot k → ⊥) → (l ≡ Hash → ⊥) → ((k : NameKind) → l ≡ Array k → ⊥) →
    ((q : Delimiter) → l ≡ Group q → ⊥) → (to : List ℕ) (x : Sized Tree) →
    stands ((level limit).operands m) from to x → ⊥
unfolding level operands_over stands
other_operand limit m from l low e a b c d to x p =
    let q = subst (λ z. stands ((level z).operands m) from to x) (sym (above limit low)) p in
    never_by (level (limit - 1)) m l a b c d q.0 to x
    (subst (λ z. stands (operand_by (level (limit - 1)) m z) q.0 to x) (sym q.2.0 ∙ sym e) q.3)

-- what begins an operand takes a character
pub lead-takes : (from : List ℕ) → (next_lead from ≡ Other → ⊥) → length (past_lead from) < length from
lead-takes from some = by_rest (past_white from) some (length-past_white from)
  where
    by_rest : (l : List ℕ) → (first_lead l ≡ Other → ⊥) → length l ≤ length from →
        length (later_characters l) < length from
    by_rest [] other low = absurd (other refl)
    by_rest (b ∷ l) other low = omega (arith, low)

other_right : (text : List ℕ) (inner : LevelMarks) (m : Option Delimiter) (from here to : List ℕ) (l : Lead) →
    ((o : BinaryOp) → l ≡ Binary o → ⊥) → [] ≡ right_marks_by text inner m from here to l
other_right text inner m from here to (Spot k) n = refl
other_right text inner m from here to (Array k) n = refl
other_right text inner m from here to Hash n = refl
other_right text inner m from here to (Group q) n = refl
other_right text inner m from here to (Unary o) n = refl
other_right text inner m from here to (Binary o) n = absurd (n o refl)
other_right text inner m from here to Other n = refl

walks_alone : (below : Level) (h : ℕ) (m : Option Delimiter) (a : Sized Tree) (l : Lead) (now : Walker) →
    ((o : BinaryOp) → l ≡ Binary o → ⊥) → Walks (right_by below h m a l) now now []
walks_alone below h m a (Spot k) now n = walks_yields a now
walks_alone below h m a (Array k) now n = walks_yields a now
walks_alone below h m a Hash now n = walks_yields a now
walks_alone below h m a (Group q) now n = walks_yields a now
walks_alone below h m a (Unary o) now n = walks_yields a now
walks_alone below h m a (Binary o) now n = absurd (n o refl)
walks_alone below h m a Other now n = walks_yields a now

-- an operand without an operator after it
pub walks_single : (limit : ℕ) (m : Option Delimiter) (old new : Walker) (l : Lead) → l ≡ next_lead (left new) →
    ((o : BinaryOp) → l ≡ Binary o → ⊥) →
    Walks ((level limit).operands m) old new ((level_marks old.text.now limit).operands m (left old)) →
    Walks ((level limit).expressions m) old new ((level_marks old.text.now limit).expressions m (left old))
unfolding level level_marks expressions_over expression_marks stands
walks_single zero m old new l e never w = walks_nothing old new _ w.keeps
walks_single (suc h) m old new l e never w =
    walks_as_if _ old new _ _
    (λ to x p.
    let here = past-is (operands_over (level h) m) (left old) p.0 p.1 p.2 ∙ sym (w.goes p.0 p.1 p.2) in
    ap (λ z. operand_marks old.text.now (level h) (level_marks old.text.now h) m (left old) ++ z)
    (other_right old.text.now (level_marks old.text.now h) m (left old) (left new)
    (past (expressions_over (level h) h m) (left old)) l never
    ∙ ap (right_marks_by old.text.now (level_marks old.text.now h) m (left old) (left new)
    (past (expressions_over (level h) h m) (left old))) e
    ∙ ap (λ z. right_marks_by old.text.now (level_marks old.text.now h) m (left old) z
    (past (expressions_over (level h) h m) (left old)) (next_lead z)) (sym here)))
    (walks_then (operands_over (level h) m) _ old new new _ [] w (keeps_same new)
    (λ a p. walks_by next (right_by (level h) h m a) new new new l [] (next-is (left new) l e) (walks_next new)
    (walks_alone (level h) h m a l new never)))

walks_both : (h : ℕ) (m : Option Delimiter) (old a b c d e : Walker) (l : Lead) (o : BinaryOp) →
    l ≡ next_lead (left a) → l ≡ Binary o →
    Walks ((level (suc h)).operands m) old a ((level_marks old.text.now (suc h)).operands m (left old)) →
    Walks sign a b [] → left b ≡ past_lead (left a) →
    Adds b c (mark b.text.now parts.Operator (left_at b.text.now a.at) (left b) ∷ []) →
    Walks ((level h).expressions m) c d ((level_marks c.text.now h).expressions m (left c)) →
    Adds d e (mark d.text.now parts.Binary (left_at d.text.now old.at) (left d) ∷ []) →
    Walks ((level (suc h)).expressions m) old e ((level_marks old.text.now (suc h)).expressions m (left old))
unfolding level level_marks expressions_over expression_marks stands
walks_both h m old a b c d e l o lead is w s goes operator right whole =
    let text = old.text.now in
    let inner = level_marks text h in
    let below = level h in
    let at_b : b.text.now ≡ text = text-is (keeps_then w.keeps s.keeps) in
    let at_c : c.text.now ≡ text = text-is (keeps_then w.keeps (keeps_then s.keeps (adds_keeps operator))) in
    let begins : left c ≡ past_lead (left a) = left-same b c operator.same_text operator.same_place ∙ goes in
    walks_as_if _ old e _ _
    (λ to x p.
    let here = past-is (operands_over below m) (left old) p.0 p.1 p.2 ∙ sym (w.goes p.0 p.1 p.2) in
    append_assoc (operand_marks text below inner m (left old)) _ _
    ∙ ap (λ z. operand_marks text below inner m (left old) ++ z)
    (ap (right_marks_by text inner m (left old) (left a) (past (expressions_over below h m) (left old)))
    (sym is ∙ lead)
    ∙ ap (λ z. right_marks_by text inner m (left old) z (past (expressions_over below h m) (left old)) (next_lead z))
    (sym here)))
    (walks_marks (expressions_over below h m) old d e _ (λ t from to. mark t parts.Binary from to ∷ []) old.at
    (walks_then (operands_over below m) _ old a d _
    (mark text parts.Operator (left a) (past_lead (left a)) ∷ inner.expressions m (past_lead (left a))) w
    (keeps_then s.keeps (keeps_then (adds_keeps operator) right.keeps))
    (λ t q. walks_by next (right_by below h m t) a a d (Binary o) _ (next-is (left a) (Binary o) (sym is ∙ lead))
    (walks_next a)
    (walks_when _ (nat_le t.height h) _ a d _
    (walks_then sign _ a b d [] _ s (keeps_then (adds_keeps operator) right.keeps)
    (λ u v. walks_as _ b d _ _
    (ap (λ z. mark z parts.Operator (left_at z a.at) (left b) ∷ (level_marks c.text.now h).expressions m (left c)) at_b
    ∙ ap (λ z. mark text parts.Operator (left_at text a.at) z ∷ (level_marks c.text.now h).expressions m (left c)) goes
    ∙ ap (λ z. mark text parts.Operator (left_at text a.at) (past_lead (left a)) ∷ (level_marks z h).expressions m (left c)) at_c
    ∙ ap (λ z. mark text parts.Operator (left_at text a.at) (past_lead (left a)) ∷ inner.expressions m z) begins
    ∙ ap (λ z. mark text parts.Operator (left_at z a.at) (past_lead (left a)) ∷ inner.expressions m (past_lead (left a)))
    (sym (text-is w.keeps)))
    (adds_walks _ b c d _ _ operator (walks_made (below.expressions m) _ c d _ right))))))) whole)

-- an operand, an operator and an expression
pub walks_joined : (limit : ℕ) (m : Option Delimiter) (old a b c d e : Walker) (l : Lead) (o : BinaryOp) (p : Position) →
    0 < limit → l ≡ next_lead (left a) → l ≡ Binary o → p ≡ old.at →
    Walks ((level limit).operands m) old a ((level_marks old.text.now limit).operands m (left old)) →
    Walks sign a b [] → left b ≡ past_lead (left a) →
    Adds b c (mark b.text.now parts.Operator (left_at b.text.now a.at) (left b) ∷ []) →
    Walks ((level (limit - 1)).expressions m) c d ((level_marks c.text.now (limit - 1)).expressions m (left c)) →
    Adds d e (mark d.text.now parts.Binary (left_at d.text.now p) (left d) ∷ []) →
    Walks ((level limit).expressions m) old e ((level_marks old.text.now limit).expressions m (left old))
walks_joined limit m old a b c d e l o p low lead is from w s goes operator right whole =
    subst (λ z. Walks ((level z).expressions m) old e ((level_marks old.text.now z).expressions m (left old)))
    (above limit low)
    (walks_both (limit - 1) m old a b c d e l o lead is
    (subst (λ z. Walks ((level z).operands m) old a ((level_marks old.text.now z).operands m (left old)))
    (sym (above limit low)) w) s goes operator right
    (subst (λ z. Adds d e (mark d.text.now parts.Binary (left_at d.text.now z) (left d) ∷ [])) from whole))

pub shorter_by : (old mid new : Walker) (l begins : Lead) → l ≡ next_lead (left old) → l ≡ begins →
    (begins ≡ Other → ⊥) → left mid ≡ past_lead (left old) → Keeps mid new → length (left new) < length (left old)
shorter_by old mid new l begins e is other goes k =
    omega (arith, ap length goes, k.within, lead-takes (left old) (λ f. other (sym is ∙ e ∙ f)))
