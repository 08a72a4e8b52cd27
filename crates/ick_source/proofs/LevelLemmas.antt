-- What is read under a bound of the height is read under each greater bound.
use Rattle.std.proofs.Common.{◌≡◌, ℕ, suc, zero, ◌+◌, ◌≤◌, nat_le, Bool, true, false, List, Option, Some, refl}
use Rattle.std.proofs.Common.{arith}
use Rattle.std.proofs.lemmas.Bool.Decides.{nat_tests}
use Rattle.ick_source.specs.declared.lead.Delimiter.{Delimiter}
use Rattle.ick_source.specs.declared.lead.Lead.{Lead}
use Rattle.ick_source.specs.declared.lead.Lead.TheVariants.{Spot, Array, Hash, Group, Unary, Binary, Other}
use Rattle.ick_source.specs.Grammar.{Grammar, Further, Part, IsRepeated, only, and_more, stands}
use Rattle.ick_source.specs.Expression.{Sized, Level, level, groups, elements, indexing, subscripts, operand_by}
use Rattle.ick_source.specs.Expression.{operands_over, right_by, expressions_over}
use Rattle.ick_syntax.specs.Tree.{Tree}
use Rattle.ick_source.proofs.GrammarLaws.{one_stands}

abbrev Within : Grammar (Sized Tree) → Grammar (Sized Tree) → Type 0
Within g h = (from to : List ℕ) (x : Sized Tree) → stands g from to x → stands h from to x

record Below (a b : Level) : Type 0 where
  operands : (m : Option Delimiter) → Within (a.operands m) (b.operands m)
  expressions : (m : Option Delimiter) → Within (a.expressions m) (b.expressions m)

repeated-within : {A : Type 0} (part part' : Part A) (further : Further) →
    ((from to : List ℕ) (x : A) → part from to x → part' from to x) → {from to : List ℕ} {xs : List A} →
    IsRepeated A part further from to xs → IsRepeated A part' further from to xs
repeated-within part part' further each (only p e) = only (each _ _ _ p) e
repeated-within part part' further each (and_more p e less q) =
    and_more (each _ _ _ p) e less (repeated-within part part' further each q)

operand-within : (a b : Level) (m : Option Delimiter) → Below a b → (l : Lead) →
    Within (operand_by a m l) (operand_by b m l)
unfolding stands groups elements indexing subscripts
operand-within a b m w (Spot k) from to x p = p
operand-within a b m w Hash from to x p = p
operand-within a b m w (Array k) from to x (mid, n, p, (last, ts, (sub, u, q, r), s)) =
    (mid, n, p, (last, ts, (sub, u, q, repeated-within _ _ _ (w.operands m) r), s))
operand-within a b m w (Group d) from to x (mid, o, p, (last, e, q, s)) =
    (mid, o, p, (last, e, w.expressions (Some d) _ _ _ q, s))
operand-within a b m w (Unary o) from to x p = p
operand-within a b m w (Binary o) from to x p = p
operand-within a b m w Other from to x p = p

right-within : (a b : Level) (h k : ℕ) (m : Option Delimiter) (left : Sized Tree) → h ≤ k → Below a b → (l : Lead) →
    Within (right_by a h m left l) (right_by b k m left l)
unfolding stands
right-within a b h k m left low w (Spot n) from to x p = p
right-within a b h k m left low w (Array n) from to x p = p
right-within a b h k m left low w Hash from to x p = p
right-within a b h k m left low w (Group d) from to x p = p
right-within a b h k m left low w (Unary o) from to x p = p
right-within a b h k m left low w Other from to x p = p
right-within a b h k m left low w (Binary o) from to x p = by_test (nat_le left.height h) refl p
  where
    by_test : (t : Bool) → nat_le left.height h ≡ t →
        stands (right_by a h m left (Binary o)) from to x → stands (right_by b k m left (Binary o)) from to x
    by_test true e p =
        let here = rw e at p in
        let there : nat_le left.height k ≡ true = grind (arith, nat_tests, low, e) in
        rw there (here.0, here.1, here.2, (here.3.0, here.3.1, w.expressions m here.0 here.3.0 here.3.1 here.3.2, here.3.3))
    by_test false e p = absurd (rw e at p)

level-within : (h k : ℕ) → h ≤ k → Below (level h) (level k)
unfolding level stands operands_over expressions_over
level-within zero k low = record { operands = λ m from to x p. absurd p; expressions = λ m from to x p. absurd p }
level-within (suc h) zero low = absurd (omega (arith, low))
level-within (suc h) (suc k) low =
    let w = level-within h k (omega (arith, low)) in
    let operands : (m : Option Delimiter) → Within (operands_over (level h) m) (operands_over (level k) m) =
    λ m from to x p. (p.0, p.1, p.2, operand-within (level h) (level k) m w p.1 _ _ _ p.3) in
    record {
      operands = operands;
      expressions = λ m from to x p. (
        p.0,
        p.1,
        operands m _ _ _ p.2,
        (p.3.0, p.3.1, p.3.2, right-within (level h) (level k) h k m p.1 (omega (arith, low)) w p.3.1 _ _ _ p.3.3),
      );
    }

pub one_expression : (m : Option Delimiter) (from to to' : List ℕ) (x x' : Sized Tree) (h h' : ℕ) →
    stands ((level h).expressions m) from to x → stands ((level h').expressions m) from to' x' → (to ≡ to') × (x ≡ x')
one_expression m from to to' x x' h h' p q =
    one_stands ((level (h + h')).expressions m) from to to' x x'
    ((level-within h (h + h') (omega arith)).expressions m from to x p)
    ((level-within h' (h + h') (omega arith)).expressions m from to' x' q)
