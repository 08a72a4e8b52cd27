-- Each operation of a body finds its operands, and one that pushes nothing leaves none.
use Rattle.std.proofs.Common.{◌≡◌, ◌≤◌, ℕ, zero, suc, ◌+◌, List, [], ◌∷◌, ◌++◌, take, Some, refl, sym, subst, arith}
use Rattle.std.specs.Prelude.{slice_get}
use Rattle.std.specs.List.{flat_map}
use Rattle.ick_syntax.specs.declared.tree.UnaryOp.{UnaryOp}
use Rattle.ick_syntax.specs.declared.tree.BinaryOp.{BinaryOp}
use Rattle.ick_syntax.specs.declared.body.Target.{Target}
use Rattle.ick_syntax.specs.declared.body.Target.TheVariants as to
use Rattle.ick_syntax.specs.declared.body.Place.{Place}
use Rattle.ick_syntax.specs.declared.body.Place.TheVariants as from
use Rattle.ick_syntax.specs.declared.body.Body.{Body}
use Rattle.ick_syntax.specs.declared.body.Body.TheVariants as body
use Rattle.ick_syntax.specs.Tree.{Tree, mesh, scalar, element, unary, binary, Trees, none, more, tree_of, trees_in}
use Rattle.ick_syntax.specs.NameKinds.{count_in}
use Rattle.ick_syntax.specs.BodyTree.{ItemTree, single, whole, item_tree}
use Rattle.ick_code.specs.declared.op.Op.{Op}
use Rattle.ick_code.specs.declared.op.Op.TheVariants.{StoreAt, Resize, Forget, Resume}
use Rattle.ick_code.specs.declared.op.Op.TheVariants.{Print, ReadAt}
use Rattle.ick_code.specs.Effects.{Slots}
use Rattle.ick_code.specs.Names.{slot_in}
use Rattle.ick_code.specs.Operations.{unary_op_of, binary_op_of, ops_of_tree, ops_of_trees, ops_of_item, ops_at, store_ops}
use Rattle.ick_code.specs.Operations.{read_ops, print_ops, ops_of_body}
use Rattle.ick_code.specs.Counts.{popped_by, pushed_by, count_after, Finds}
use Rattle.ick_code.specs.Code.{FindOperands}
use Rattle.ick_code.proofs.CountLemmas.{step_count}
use Rattle.ick_code.proofs.Members.{some_is}

abbrev AllFind : List Op → ℕ → Type 0
AllFind [] n = Unit {0}
AllFind (op ∷ ops) n = Finds op n × AllFind ops (step_count op n)

-- so operations do, which make one number of operands another
record Turns (ops : List Op) (n m : ℕ) : Type 0 where
  all : AllFind ops n
  count : count_after ops n ≡ m

at_each : (ops : List Op) (n : ℕ) → AllFind ops n → (k : ℕ) (op : Op) → slice_get ops k ≡ Some op →
    Finds op (count_after (take k ops) n)
at_each [] n h k op at = absurd (cc)
at_each (x ∷ ops) n h zero op at = subst (λ o. Finds o n) (some_is x op at) h.0
at_each (x ∷ ops) n h (suc k) op at = at_each ops (step_count x n) h.1 k op at

both : (xs ys : List Op) {n m k : ℕ} → Turns xs n m → Turns ys m k → Turns (xs ++ ys) n k
both [] ys {k = k} a b = subst (λ i. Turns ys i k) (sym a.count) b
both (x ∷ xs) ys a b =
    let rest = both xs ys (record { all = a.all.1; count = a.count }) b in
    record { all = (a.all.0, rest.all); count = rest.count }

one : {op : Op} {n m : ℕ} → popped_by op ≤ n → (pushed_by op ≡ 0 → n ≡ popped_by op) → step_count op n ≡ m →
    Turns (op ∷ []) n m
one enough all e = record { all = (record { enough = enough; all = all }, tt); count = e }

unary_turns : (op : UnaryOp) (n : ℕ) → Turns (unary_op_of op ∷ []) (n + 1) (n + 1)
unary_turns op n = grind arith

binary_turns : (op : BinaryOp) (n : ℕ) → Turns (binary_op_of op ∷ []) (n + 1 + 1) (n + 1)
binary_turns op n = grind arith

module _ (slots : Slots) where
  mutual
    tree_turns : (t : Tree) (n : ℕ) → Turns (ops_of_tree slots t) n (n + 1)
    tree_turns (mesh v) n = one (omega arith) (λ e. absurd (cc)) (omega arith)
    tree_turns (scalar name) n = one (omega arith) (λ e. absurd (cc)) (omega arith)
    tree_turns (element array ts) n =
        both (ops_of_trees slots ts) _ (trees_turn ts n) (one (omega arith) (λ e. absurd (cc)) (omega arith))
    tree_turns (unary op t) n = both (ops_of_tree slots t) _ (tree_turns t n) (unary_turns op n)
    tree_turns (binary op a b) n =
        both (ops_of_tree slots a ++ ops_of_tree slots b) _
        (both (ops_of_tree slots a) _ (tree_turns a n) (tree_turns b (n + 1))) (binary_turns op n)

    trees_turn : (ts : Trees) (n : ℕ) → Turns (ops_of_trees slots ts) n (n + count_in ts)
    trees_turn none n = record { all = tt; count = omega arith }
    trees_turn (more t ts) n =
        let same : n + 1 + count_in ts ≡ n + suc (count_in ts) = omega arith in
        both (ops_of_tree slots t) _ (tree_turns t n) (subst (Turns (ops_of_trees slots ts) (n + 1)) same (trees_turn ts (n + 1)))

  -- an operation that takes an expression, or a list
  of_tree : (t : Tree) (op : Op) → popped_by op ≡ 1 → pushed_by op ≡ 0 → Turns (ops_of_tree slots t ++ op ∷ []) 0 0
  of_tree t op pops pushes =
      both (ops_of_tree slots t) _ (tree_turns t 0) (one (omega (arith, pops)) (λ e. omega (arith, pops)) (omega (arith, pops, pushes)))

  of_trees : (ts : Trees) (make : ℕ → Op) (n : ℕ) → popped_by (make (count_in ts)) ≡ n + count_in ts →
      pushed_by (make (count_in ts)) ≡ 0 → Turns (ops_at slots ts make) n 0
  of_trees ts make n pops pushes =
      both (ops_of_trees slots ts) _ (trees_turn ts n) (one (omega (arith, pops)) (λ e. omega (arith, pops)) (omega (arith, pops, pushes)))

  target_turns : (target : Target) → Turns (store_ops slots target) 1 0
  target_turns (to.Scalar name) = one (omega arith) (λ e. refl) refl
  target_turns (to.Element e) = of_trees (trees_in e.subs.items) (StoreAt (slot_in slots.arrays e.array)) 1 (omega arith) refl

  place_turns : (place : Place) → Turns (read_ops slots place) 0 0
  place_turns (from.Scalar name) = one (omega arith) (λ e. refl) refl
  place_turns (from.Element e) = of_trees (trees_in e.subs.items) (ReadAt (slot_in slots.arrays e.array)) 0 (omega arith) refl
  place_turns (from.Array name) = one (omega arith) (λ e. refl) refl

  item_turns : (item : ItemTree) → Turns (ops_of_item slots item) 0 0
  item_turns (single t) = of_tree t Print refl refl
  item_turns (whole name) = one (omega arith) (λ e. refl) refl

  all_turn : {A : Type 0} (ops : A → List Op) → ((x : A) → Turns (ops x) 0 0) → (xs : List A) →
      Turns (flat_map ops xs) 0 0
  all_turn ops each [] = record { all = tt; count = refl }
  all_turn ops each (x ∷ xs) = both (ops x) _ (each x) (all_turn ops each xs)

  body_turns : (number : ℕ → ℕ) (b : Body) → Turns (ops_of_body number slots b) 0 0
  body_turns number (body.Calculate target e) =
      both (ops_of_tree slots (tree_of e)) _ (tree_turns (tree_of e) 0) (target_turns target)
  body_turns number (body.Dimension array es) = of_trees (trees_in es.items) (Resize (slot_in slots.arrays array)) 0 (omega arith) refl
  body_turns number (body.Next label) = one (omega arith) (λ e. refl) refl
  body_turns number (body.Forget e) = of_tree (tree_of e) Forget refl refl
  body_turns number (body.Resume e) = of_tree (tree_of e) Resume refl refl
  body_turns number (body.Stash names) = all_turn _ (λ name. one (omega arith) (λ e. refl) refl) names.items
  body_turns number (body.Retrieve names) = all_turn _ (λ name. one (omega arith) (λ e. refl) refl) names.items
  body_turns number (body.Ignore names) = all_turn _ (λ name. one (omega arith) (λ e. refl) refl) names.items
  body_turns number (body.Remember names) = all_turn _ (λ name. one (omega arith) (λ e. refl) refl) names.items
  body_turns number (body.AbstainLabel label) = one (omega arith) (λ e. refl) refl
  body_turns number (body.AbstainKinds gerunds) = all_turn _ (λ gerund. one (omega arith) (λ e. refl) refl) gerunds.items
  body_turns number (body.ReinstateLabel label) = one (omega arith) (λ e. refl) refl
  body_turns number (body.ReinstateKinds gerunds) = all_turn _ (λ gerund. one (omega arith) (λ e. refl) refl) gerunds.items
  body_turns number body.GiveUp = one (omega arith) (λ e. refl) refl
  body_turns number (body.WriteIn places) = all_turn (read_ops slots) place_turns places.items
  body_turns number (body.ReadOut items) = all_turn (print_ops slots) (λ item. item_turns (item_tree item)) items.items
  body_turns number body.Unrecognised = one (omega arith) (λ e. refl) refl

  pub body_finds : (number : ℕ → ℕ) (b : Body) → FindOperands (ops_of_body number slots b)
  body_finds number b = let turns = body_turns number b in at_each (ops_of_body number slots b) 0 turns.all
