-- What the operations of trees and bodies do.
use Rattle.std.proofs.Common.{◌≡◌, ℕ, suc, ◌≤◌, true, false, List, [], ◌∷◌, ◌++◌, length, take}
use Rattle.std.proofs.Common.{drop, reverse, map, Option, Some, Result, Ok, Err, refl, sym, ap, ◌∙◌, subst, arith}
use Rattle.std.proofs.Common.{append_assoc, append-nil, length-append, if◌then◌else◌}
use Rattle.std.specs.Prelude.{nat_le, nat_lt}
use Rattle.std.specs.List.{flat_map, list_all}
use Rattle.std.proofs.lemmas.Bool.Decides.{nat_tests}
use Rattle.std.proofs.lemmas.List.{reverse-append, reverse-reverse, length-reverse}
use Rattle.std.proofs.Math.Seq.{take-append_seam, drop-append_seam}
use Rattle.ick_bits.specs.Values.{number_of}
use Rattle.ick_bits.specs.declared.values.Value.{Value}
use Rattle.ick_bits.specs.declared.faults.FaultKind.{FaultKind}
use Rattle.ick_syntax.specs.declared.tree.Name.{Name}
use Rattle.ick_syntax.specs.declared.body.Gerund.{Gerund}
use Rattle.ick_syntax.specs.declared.tree.UnaryOp.{UnaryOp}
use Rattle.ick_syntax.specs.declared.tree.UnaryOp.TheVariants as unary_op
use Rattle.ick_syntax.specs.declared.tree.BinaryOp.{BinaryOp}
use Rattle.ick_syntax.specs.declared.tree.BinaryOp.TheVariants as binary_op
use Rattle.ick_syntax.specs.declared.body.Target.{Target}
use Rattle.ick_syntax.specs.declared.body.Target.TheVariants as to
use Rattle.ick_syntax.specs.declared.body.Place.{Place}
use Rattle.ick_syntax.specs.declared.body.Place.TheVariants as from
use Rattle.ick_syntax.specs.declared.body.Body.{Body}
use Rattle.ick_syntax.specs.declared.body.Body.TheVariants as body
use Rattle.ick_syntax.specs.Tree.{Tree, mesh, scalar, element, unary, binary, Trees, none, more, tree_of, trees_in}
use Rattle.ick_syntax.specs.StatementTree.{StatementTree}
use Rattle.ick_syntax.specs.NameKinds.{is_array, is_tail, count_in, are_few, is_kinded, are_kinded, is_item_kinded}
use Rattle.ick_syntax.specs.NameKinds.{is_body_kinded}
use Rattle.ick_syntax.specs.BodyTree.{ItemTree, single, whole, target_tree, place_tree, item_tree, body_tree_of}
use Rattle.ick_code.specs.declared.op.Op.{Op}
use Rattle.ick_code.specs.declared.op.Op.TheVariants.{Fetch, StoreAt, Resize, Forget, Resume, Save, Restore, Hide, Show}
use Rattle.ick_code.specs.declared.op.Op.TheVariants.{AbstainKind, ReinstateKind, Print, ReadAt, PrintArray, ReadArray}
use Rattle.ick_code.specs.declared.op.SlotName.{SlotName}
use Rattle.ick_code.specs.declared.op.SlotName.TheVariants.{Array}
use Rattle.ick_code.specs.meaning.State.{State}
use Rattle.ick_code.specs.meaning.Value.{value_of, values_of, and_then, element_value, unary_value, binary_value}
use Rattle.ick_code.specs.meaning.Completion.{Completion, done, faults, then_do, with_value, in_turn}
use Rattle.ick_code.specs.meaning.Store.{store_at, resize}
use Rattle.ick_code.specs.meaning.Control.{place_of, call, forget, resume}
use Rattle.ick_code.specs.meaning.Stash.{stash, retrieve, ignore}
use Rattle.ick_code.specs.meaning.Abstain.{set_kind_abstained}
use Rattle.ick_code.specs.meaning.InputOutput.{read_at, print}
use Rattle.ick_code.specs.meaning.Tape.{print_array, read_array}
use Rattle.ick_code.specs.meaning.Do.{store_to, read_place, print_item, do_body}
use Rattle.ick_code.specs.Effects.{Slots, name_at, Flow, going, broken, stuck, flow_of, gives, on_one, on_last, at_name}
use Rattle.ick_code.specs.Effects.{effect, effects, then_flow}
use Rattle.ick_code.specs.Names.{names_of_tree, names_of_trees, names_of_item, names_of_body, slot_in, slot_name}
use Rattle.ick_code.specs.Operations.{unary_op_of, binary_op_of, ops_of_tree, ops_of_trees, ops_of_item, store_ops}
use Rattle.ick_code.specs.Operations.{read_ops, print_ops, name_ops, gerund_ops, ops_of_body}
use Rattle.ick_code.proofs.Covers.{Covers, covers_left, covers_right, covers_head, covers_tail, scalar_slot, array_slot}
use Rattle.ick_code.proofs.Covers.{tail_is_array}
use Rattle.ick_code.proofs.Bools.{both_left, both_right, first_of, third_of}
use Rattle.ick_code.proofs.Trees.{trees-listed, kinded-listed, names-listed}

-- goes on with a value, or is broken by its fault
abbrev on : {A : Type 0} → Result A FaultKind → State → (A → Flow) → Flow
on (Ok a) s go = go a
on (Err kind) s go = broken kind [] s

on-and_then : {A B : Type 0} (r : Result A FaultKind) (f : A → Result B FaultKind) (s : State) (go : B → Flow) →
    on (and_then r f) s go ≡ on r s (λ a. on (f a) s go)
on-and_then (Ok a) f s go = refl
on-and_then (Err kind) f s go = refl

on-same : {A : Type 0} (r : Result A FaultKind) (s : State) (f g : A → Flow) → ((a : A) → r ≡ Ok a →
    f a ≡ g a) → on r s f ≡ on r s g
on-same (Ok a) s f g same = same a refl
on-same (Err kind) s f g same = refl

-- the operands that were put last are taken off
take-front : {A : Type 0} (xs ys : List A) (k : ℕ) → length xs ≡ k → take k (xs ++ ys) ≡ xs
take-front xs ys k e = ap (λ n. take n (xs ++ ys)) (sym e) ∙ take-append_seam xs ys

drop-front : {A : Type 0} (xs ys : List A) (k : ℕ) → length xs ≡ k → drop k (xs ++ ys) ≡ ys
drop-front xs ys k e = ap (λ n. drop n (xs ++ ys)) (sym e) ∙ drop-append_seam xs ys

reverse_onto : {A : Type 0} (x : A) (xs ys : List A) → reverse (x ∷ xs) ++ ys ≡ reverse xs ++ (x ∷ ys)
reverse_onto x xs ys = ap (λ l. l ++ ys) (reverse-append (x ∷ []) xs) ∙ append_assoc (reverse xs) (x ∷ []) ys

on_last-put : (k : ℕ) (vs base : List Value) (go : List Value → List Value → Flow) → length vs ≡ k →
    on_last k (reverse vs ++ base) go ≡ go vs base
on_last-put k vs base go e =
    let l : length (reverse vs) ≡ k = length-reverse vs ∙ e in
    let fits : k ≤ length (reverse vs ++ base) = omega (arith, length-append (reverse vs) base) in
    let passes : nat_le k (length (reverse vs ++ base)) ≡ true = grind (arith, nat_tests) in
    ap (λ b. if b then go (reverse (take k (reverse vs ++ base))) (drop k (reverse vs ++ base)) else stuck) passes
    ∙ ap (λ a. go (reverse a) (drop k (reverse vs ++ base))) (take-front (reverse vs) base k l)
    ∙ ap (λ a. go a (drop k (reverse vs ++ base))) (reverse-reverse vs)
    ∙ ap (λ b. go vs b) (drop-front (reverse vs) base k l)

values_length : (ts : Trees) (s : State) (vs : List Value) → values_of ts s ≡ Ok vs → length vs ≡ count_in ts
values_length none s [] e = refl
values_length none s (v ∷ vs) e = absurd (cc)
values_length (more t ts) s vs e = cases (value_of t s) (values_of ts s) (λ ws eq. values_length ts s ws eq) e
  where
    cases : (r : Result Value FaultKind) (q : Result (List Value) FaultKind) → ((ws : List Value) → q ≡ Ok ws →
        length ws ≡ count_in ts) → and_then r (λ v. and_then q (λ ws. Ok (v ∷ ws))) ≡ Ok vs →
        length vs ≡ suc (count_in ts)
    cases (Ok v) (Ok ws) l e = let same : v ∷ ws ≡ vs = cc in ap length (sym same) ∙ ap suc (l ws refl)
    cases (Ok v) (Err kind) l e = absurd (cc)
    cases (Err kind) q l e = absurd (cc)

module _ (program : List StatementTree) (slots : Slots) (text : List ℕ) where
  abbrev run : List Op → List Value → State → Flow
  run = effects program slots text

  at-name : (o : Option Name) (name : Name) (go : Name → Flow) → o ≡ Some name → at_name o go ≡ go name
  at-name o name go e = ap (λ o. at_name o go) e

  gives-then : (r : Result Value FaultKind) (base : List Value) (s : State) (rest : List Op) →
      then_flow (gives r base s) (run rest) ≡ on r s (λ v. run rest (v ∷ base) s)
  gives-then (Ok v) base s rest = refl
  gives-then (Err kind) base s rest = refl

  unary_runs : (op : UnaryOp) (v : Value) (rest : List Op) (base : List Value) (s : State) →
      run (unary_op_of op ∷ rest) (v ∷ base) s ≡ run rest (unary_value op v ∷ base) s
  unary_runs unary_op.And v rest base s = refl
  unary_runs unary_op.Or v rest base s = refl
  unary_runs unary_op.Xor v rest base s = refl

  binary_runs : (op : BinaryOp) (v w : Value) (rest : List Op) (base : List Value) (s : State) →
      run (binary_op_of op ∷ rest) (w ∷ v ∷ base) s
      ≡ on (binary_value op v w) s (λ v. run rest (v ∷ base) s)
  binary_runs binary_op.Mingle v w rest base s = gives-then (binary_value binary_op.Mingle v w) base s rest
  binary_runs binary_op.Select v w rest base s = refl

  -- an operation on operands that were just put
  listed : (make : ℕ → Op) (array : Name) (go : Name → List Value → List Value → Flow) (ts : Trees)
      (base : List Value) (s : State) (rest : List Op) →
      ((k : ℕ) (operands : List Value) →
      effect program slots text (make k) operands s
      ≡ at_name (name_at slots (Array (slot_in slots.arrays array))) (λ name. on_last k operands (go name))) →
      name_at slots (Array (slot_in slots.arrays array)) ≡ Some array → (vs : List Value) →
      values_of ts s ≡ Ok vs →
      run (make (count_in ts) ∷ rest) (reverse vs ++ base) s ≡ then_flow (go array vs base) (run rest)
  listed make array go ts base s rest is at vs e =
      ap (λ f. then_flow f (run rest)) (is (count_in ts) (reverse vs ++ base) ∙ at-name _ array _ at
      ∙ on_last-put (count_in ts) vs base (go array) (values_length ts s vs e))

  mutual
    -- the operations of a tree give its value, or its fault
    pub tree_runs : (t : Tree) → is_kinded t ≡ true →
        Covers slots (names_of_tree t) → (rest : List Op) (base : List Value) (s : State) →
        run (ops_of_tree slots t ++ rest) base s ≡ on (value_of t s) s (λ v. run rest (v ∷ base) s)
    tree_runs (mesh n) kinded covered rest base s = refl
    tree_runs (scalar name) kinded covered rest base s =
        ap (λ f. then_flow f (run rest))
        (at-name _ name _ (scalar_slot slots name kinded (covers_head slots name [] covered)))
    tree_runs (element array ts) kinded covered rest base s =
        let made = Fetch (slot_in slots.arrays array) (count_in ts) in
        let is_one = first_of (is_array array.kind) (are_few ts) (are_kinded ts) kinded in
        ap (λ o. run o base s) (append_assoc (ops_of_trees slots ts) (made ∷ []) rest)
        ∙ trees_runs ts (third_of (is_array array.kind) (are_few ts) (are_kinded ts) kinded)
        (covers_tail slots array (names_of_trees ts) covered) (made ∷ rest) base s
        ∙ on-same (values_of ts s) s _ _ (λ vs e.
        listed (Fetch (slot_in slots.arrays array)) array
        (λ name subs below. gives (element_value name (s.arrays name) subs) below s) ts base s rest
        (λ k operands. refl) (array_slot slots array is_one (covers_head slots array (names_of_trees ts) covered)) vs e
        ∙ gives-then (element_value array (s.arrays array) vs) base s rest)
        ∙ sym (on-and_then (values_of ts s) (λ vs. element_value array (s.arrays array) vs) s
        (λ v. run rest (v ∷ base) s))
    tree_runs (unary op t) kinded covered rest base s =
        ap (λ o. run o base s) (append_assoc (ops_of_tree slots t) (unary_op_of op ∷ []) rest)
        ∙ tree_runs t kinded covered (unary_op_of op ∷ rest) base s
        ∙ on-same (value_of t s) s _ _ (λ v _. unary_runs op v rest base s)
        ∙ sym (on-and_then (value_of t s) (λ v. Ok (unary_value op v)) s (λ v. run rest (v ∷ base) s))
    tree_runs (binary op a b) kinded covered rest base s =
        let last = binary_op_of op ∷ rest in
        ap (λ o. run o base s) (append_assoc (ops_of_tree slots a ++ ops_of_tree slots b) (binary_op_of op ∷ []) rest
        ∙ append_assoc (ops_of_tree slots a) (ops_of_tree slots b) last)
        ∙ tree_runs a (both_left (is_kinded a) (is_kinded b) kinded)
        (covers_left slots (names_of_tree a) (names_of_tree b) covered) (ops_of_tree slots b ++ last) base s
        ∙ on-same (value_of a s) s _ _ (λ v _.
        tree_runs b (both_right (is_kinded a) (is_kinded b) kinded)
        (covers_right slots (names_of_tree a) (names_of_tree b) covered) last (v ∷ base) s
        ∙ on-same (value_of b s) s _ _ (λ w _. binary_runs op v w rest base s)
        ∙ sym (on-and_then (value_of b s) (λ w. binary_value op v w) s (λ v. run rest (v ∷ base) s)))
        ∙ sym (on-and_then (value_of a s) (λ v. and_then (value_of b s) (λ w. binary_value op v w)) s
        (λ v. run rest (v ∷ base) s))

    pub trees_runs : (ts : Trees) → are_kinded ts ≡ true →
        Covers slots (names_of_trees ts) → (rest : List Op) (base : List Value) (s : State) →
        run (ops_of_trees slots ts ++ rest) base s ≡ on (values_of ts s) s (λ vs. run rest (reverse vs ++ base) s)
    trees_runs none kinded covered rest base s = refl
    trees_runs (more t ts) kinded covered rest base s =
        ap (λ o. run o base s) (append_assoc (ops_of_tree slots t) (ops_of_trees slots ts) rest)
        ∙ tree_runs t (both_left (is_kinded t) (are_kinded ts) kinded)
        (covers_left slots (names_of_tree t) (names_of_trees ts) covered) (ops_of_trees slots ts ++ rest) base s
        ∙ on-same (value_of t s) s _ _ (λ v _.
        trees_runs ts (both_right (is_kinded t) (are_kinded ts) kinded)
        (covers_right slots (names_of_tree t) (names_of_trees ts) covered) rest (v ∷ base) s
        ∙ on-same (values_of ts s) s _ _ (λ vs _. ap (λ l. run rest l s) (sym (reverse_onto v vs base)))
        ∙ sym (on-and_then (values_of ts s) (λ vs. Ok (v ∷ vs)) s (λ vs. run rest (reverse vs ++ base) s)))
        ∙ sym (on-and_then (value_of t s) (λ v. and_then (values_of ts s) (λ vs. Ok (v ∷ vs))) s
        (λ vs. run rest (reverse vs ++ base) s))

  then_flow-last : (f : Flow) → then_flow f (run []) ≡ f
  then_flow-last (going operands s) = refl
  then_flow-last (broken kind subject s) = refl
  then_flow-last stuck = refl

  then-with_value : {A : Type 0} (r : Result A FaultKind) (s : State) (go : A → Completion)
      (next : List Value → State → Flow) →
      then_flow (flow_of [] (with_value r s go)) next ≡ on r s (λ a. then_flow (flow_of [] (go a)) next)
  then-with_value (Ok a) s go next = refl
  then-with_value (Err kind) s go next = refl

  flow-then_do : (o : Completion) (f : State → Completion) (next : List Value → State → Flow) → ((s : State) →
      next [] s ≡ flow_of [] (f s)) → then_flow (flow_of [] o) next ≡ flow_of [] (then_do o f)
  flow-then_do (done s) f next same = same s
  flow-then_do (faults kind subject s) f next same = refl

  -- a value goes to a target
  target_stores : (target : Target) → is_kinded (target_tree target) ≡ true →
      Covers slots (names_of_tree (target_tree target)) → (v : Value) (rest : List Op) (s : State) →
      run (store_ops slots target ++ rest) (v ∷ []) s
      ≡ then_flow (flow_of [] (store_to (target_tree target) (number_of v) s)) (run rest)
  target_stores (to.Scalar name) kinded covered v rest s =
      ap (λ f. then_flow f (run rest))
      (at-name _ name _ (scalar_slot slots name kinded (covers_head slots name [] covered)))
  target_stores (to.Element e) kinded covered v rest s =
      let ts = trees_in e.subs.items in
      let made = StoreAt (slot_in slots.arrays e.array) (count_in ts) in
      let at =
      array_slot slots e.array (first_of (is_array e.array.kind) (are_few ts) (are_kinded ts) kinded)
      (covers_head slots e.array (names_of_trees ts) covered) in
      ap (λ o. run o (v ∷ []) s) (append_assoc (ops_of_trees slots ts) (made ∷ []) rest)
      ∙ trees_runs ts (third_of (is_array e.array.kind) (are_few ts) (are_kinded ts) kinded)
      (covers_tail slots e.array (names_of_trees ts) covered) (made ∷ rest) (v ∷ []) s
      ∙ on-same (values_of ts s) s _ _ (λ vs same.
      listed (StoreAt (slot_in slots.arrays e.array)) e.array
      (λ name subs below. on_one below (λ v rest. flow_of rest (store_at name subs (number_of v) s))) ts
      (v ∷ []) s rest (λ k operands. refl) at vs same)
      ∙ sym (then-with_value (values_of ts s) s (λ vs. store_at e.array vs (number_of v) s) (run rest))

  -- an operation on an array whole
  array_goes : (array : Name) (make : ℕ → Op) (f : Name → State → Completion) →
      is_tail array.kind ≡ true →
      Covers slots (array ∷ []) →
      ((slot : ℕ) (s : State) →
      effect program slots text (make slot) [] s
      ≡ at_name (name_at slots (Array slot)) (λ name. flow_of [] (f name s))) →
      (rest : List Op) (s : State) →
      run (make (slot_in slots.arrays array) ∷ rest) [] s ≡ then_flow (flow_of [] (f array s)) (run rest)
  array_goes array make f tail covered one rest s =
      let at = array_slot slots array (tail_is_array array.kind tail) (covers_head slots array [] covered) in
      ap (λ w. then_flow w (run rest)) (one (slot_in slots.arrays array) s ∙ at-name _ array _ at)

  -- input goes to a place
  place_reads : (place : Place) →
      is_item_kinded (place_tree place) ≡ true →
      Covers slots (names_of_item (place_tree place)) →
      (rest : List Op) (s : State) →
      run (read_ops slots place ++ rest) [] s ≡ then_flow (flow_of [] (read_place (place_tree place) s)) (run rest)
  place_reads (from.Scalar name) kinded covered rest s =
      ap (λ f. then_flow f (run rest))
      (at-name _ name _ (scalar_slot slots name kinded (covers_head slots name [] covered)))
  place_reads (from.Element e) kinded covered rest s =
      let ts = trees_in e.subs.items in
      let made = ReadAt (slot_in slots.arrays e.array) (count_in ts) in
      let at =
      array_slot slots e.array (first_of (is_array e.array.kind) (are_few ts) (are_kinded ts) kinded)
      (covers_head slots e.array (names_of_trees ts) covered) in
      ap (λ o. run o [] s) (append_assoc (ops_of_trees slots ts) (made ∷ []) rest)
      ∙ trees_runs ts (third_of (is_array e.array.kind) (are_few ts) (are_kinded ts) kinded)
      (covers_tail slots e.array (names_of_trees ts) covered) (made ∷ rest) [] s
      ∙ on-same (values_of ts s) s _ _ (λ vs same.
      listed (ReadAt (slot_in slots.arrays e.array)) e.array
      (λ name subs below. flow_of below (read_at name subs s)) ts [] s rest (λ k operands. refl) at vs same)
      ∙ sym (then-with_value (values_of ts s) s (λ vs. read_at e.array vs s) (run rest))
  place_reads (from.Array name) kinded covered rest s =
      array_goes name ReadArray read_array kinded covered (λ slot s. refl) rest s

  -- one operation on the value of a tree
  value_goes : (t : Tree) (op : Op) (f : Value → State → Completion) → is_kinded t ≡ true →
      Covers slots (names_of_tree t) →
      ((v : Value) (s : State) → effect program slots text op (v ∷ []) s ≡ flow_of [] (f v s)) →
      (rest : List Op) (s : State) → run ((ops_of_tree slots t ++ op ∷ []) ++ rest) [] s
      ≡ then_flow (flow_of [] (with_value (value_of t s) s (λ v. f v s))) (run rest)
  value_goes t op f kinded covered one rest s =
      ap (λ o. run o [] s) (append_assoc (ops_of_tree slots t) (op ∷ []) rest)
      ∙ tree_runs t kinded covered (op ∷ rest) [] s
      ∙ on-same (value_of t s) s _ _ (λ v _. ap (λ f. then_flow f (run rest)) (one v s))
      ∙ sym (then-with_value (value_of t s) s (λ v. f v s) (run rest))

  -- the same, with nothing after it
  value_goes_last : (t : Tree) (op : Op) (f : Value → State → Completion) → is_kinded t ≡ true →
      Covers slots (names_of_tree t) →
      ((v : Value) (s : State) → effect program slots text op (v ∷ []) s ≡ flow_of [] (f v s)) →
      (s : State) →
      run (ops_of_tree slots t ++ op ∷ []) [] s ≡ flow_of [] (with_value (value_of t s) s (λ v. f v s))
  value_goes_last t op f kinded covered one s =
      ap (λ o. run o [] s) (sym (append-nil (ops_of_tree slots t ++ op ∷ [])))
      ∙ value_goes t op f kinded covered one [] s
      ∙ then_flow-last _

  -- an item is printed
  item_prints : (t : ItemTree) →
      is_item_kinded t ≡ true →
      Covers slots (names_of_item t) →
      (rest : List Op) (s : State) →
      run (ops_of_item slots t ++ rest) [] s ≡ then_flow (flow_of [] (print_item t s)) (run rest)
  item_prints (single t) kinded covered rest s =
      value_goes t Print (λ v s. done (print (number_of v) s)) kinded covered (λ v s. refl) rest s
  item_prints (whole name) kinded covered rest s =
      array_goes name PrintArray print_array kinded covered (λ slot s. refl) rest s

  -- the members of a list, one after another
  members_run : {A : Type 0} (tree : A → ItemTree) (ops : A → List Op) (f : ItemTree → State → Completion) →
      ((x : A) →
      is_item_kinded (tree x) ≡ true →
      Covers slots (names_of_item (tree x)) →
      (rest : List Op) (s : State) →
      run (ops x ++ rest) [] s ≡ then_flow (flow_of [] (f (tree x) s)) (run rest)) →
      (xs : List A) →
      list_all is_item_kinded (map tree xs) ≡ true →
      Covers slots (flat_map names_of_item (map tree xs)) →
      (s : State) →
      run (flat_map ops xs) [] s ≡ flow_of [] (in_turn f (map tree xs) s)
  members_run tree ops f one [] kinded covered s = refl
  members_run tree ops f one (x ∷ xs) kinded covered s =
      let t = tree x in
      let ts = map tree xs in
      let is_one = both_left (is_item_kinded t) (list_all is_item_kinded ts) kinded in
      let are_others = both_right (is_item_kinded t) (list_all is_item_kinded ts) kinded in
      let has = covers_left slots (names_of_item t) (flat_map names_of_item ts) covered in
      let have = covers_right slots (names_of_item t) (flat_map names_of_item ts) covered in
      one x is_one has (flat_map ops xs) s
      ∙ flow-then_do (f t s) (in_turn f ts) (run (flat_map ops xs))
      (λ s. members_run tree ops f one xs are_others have s)

  names_run : (make : SlotName → Op) (f : Name → State → Completion) → ((slot : SlotName) (s : State) →
      effect program slots text (make slot) [] s
      ≡ at_name (name_at slots slot) (λ name. flow_of [] (f name s))) →
      (names : List Name) → Covers slots names → (s : State) →
      run (name_ops slots make names) [] s ≡ flow_of [] (in_turn f names s)
  names_run make f one [] covered s = refl
  names_run make f one (name ∷ names) covered s =
      ap (λ w. then_flow w (run (name_ops slots make names)))
      (one (slot_name slots name) s ∙ at-name _ name _ (covers_head slots name names covered))
      ∙ flow-then_do (f name s) (in_turn f names) (run (name_ops slots make names))
      (λ s. names_run make f one names (covers_tail slots name names covered) s)

  gerunds_run : (make : Gerund → Op) (f : Gerund → State → Completion) → ((gerund : Gerund) (s : State) →
      effect program slots text (make gerund) [] s ≡ flow_of [] (f gerund s)) →
      (gerunds : List Gerund) (s : State) → run (gerund_ops make gerunds) [] s ≡ flow_of [] (in_turn f gerunds s)
  gerunds_run make f one [] s = refl
  gerunds_run make f one (gerund ∷ gerunds) s =
      ap (λ w. then_flow w (run (gerund_ops make gerunds))) (one gerund s)
      ∙ flow-then_do (f gerund s) (in_turn f gerunds) (run (gerund_ops make gerunds))
      (λ s. gerunds_run make f one gerunds s)

  -- the operations of a body do what the body does
  pub body_runs : (b : Body) → is_body_kinded (body_tree_of b) ≡ true →
      Covers slots (names_of_body (body_tree_of b)) → (s : State) →
      run (ops_of_body (λ label. place_of label program) slots b) [] s
      ≡ flow_of [] (do_body program text (body_tree_of b) s)
  body_runs (body.Calculate target e) kinded covered s =
      let t = target_tree target in
      let is_one = both_left (is_kinded t) (is_kinded (tree_of e)) kinded in
      let has = covers_left slots (names_of_tree t) (names_of_tree (tree_of e)) covered in
      tree_runs (tree_of e) (both_right (is_kinded t) (is_kinded (tree_of e)) kinded)
      (covers_right slots (names_of_tree t) (names_of_tree (tree_of e)) covered) (store_ops slots target) [] s
      ∙ on-same (value_of (tree_of e) s) s _ _ (λ v _.
      ap (λ o. run o (v ∷ []) s) (sym (append-nil (store_ops slots target)))
      ∙ target_stores target is_one has v [] s)
      ∙ sym (then-with_value (value_of (tree_of e) s) s (λ v. store_to t (number_of v) s) (run []))
      ∙ then_flow-last _
  body_runs (body.Dimension array es) kinded covered s =
      let ts = trees_in es.items in
      let all = list_all is_kinded (map tree_of es.items) in
      let few = nat_lt (length (map tree_of es.items)) 4294967296 in
      let made = Resize (slot_in slots.arrays array) (count_in ts) in
      let at =
      array_slot slots array (first_of (is_array array.kind) few all kinded)
      (covers_head slots array (flat_map names_of_tree (map tree_of es.items)) covered) in
      let named = covers_tail slots array (flat_map names_of_tree (map tree_of es.items)) covered in
      trees_runs ts (kinded-listed es.items (third_of (is_array array.kind) few all kinded))
      (subst (Covers slots) (names-listed es.items) named) (made ∷ []) [] s
      ∙ on-same (values_of ts s) s _ _ (λ vs same.
      listed (Resize (slot_in slots.arrays array)) array
      (λ name dimensions below. flow_of below (resize name (map number_of dimensions) s)) ts [] s []
      (λ k operands. refl) at vs same)
      ∙ sym (then-with_value (values_of ts s) s (λ vs. resize array (map number_of vs) s) (run []))
      ∙ then_flow-last _
      ∙ ap (λ ts. flow_of [] (with_value (values_of ts s) s (λ vs. resize array (map number_of vs) s)))
      (sym (trees-listed es.items))
  body_runs (body.Next label) kinded covered s = then_flow-last (flow_of [] (call (place_of label program) s))
  body_runs (body.Forget e) kinded covered s =
      value_goes_last (tree_of e) Forget (λ v s. done (forget (number_of v) s)) kinded covered (λ v s. refl) s
  body_runs (body.Resume e) kinded covered s =
      value_goes_last (tree_of e) Resume (λ v s. resume (number_of v) s) kinded covered (λ v s. refl) s
  body_runs (body.Stash names) kinded covered s =
      names_run Save (λ name s. done (stash name s)) (λ slot s. refl) names.items covered s
  body_runs (body.Retrieve names) kinded covered s = names_run Restore retrieve (λ slot s. refl) names.items covered s
  body_runs (body.Ignore names) kinded covered s =
      names_run Hide (λ name s. done (ignore true name s)) (λ slot s. refl) names.items covered s
  body_runs (body.Remember names) kinded covered s =
      names_run Show (λ name s. done (ignore false name s)) (λ slot s. refl) names.items covered s
  body_runs (body.AbstainLabel label) kinded covered s = refl
  body_runs (body.AbstainKinds gerunds) kinded covered s =
      gerunds_run AbstainKind (λ g s. done (set_kind_abstained program true g s)) (λ g s. refl) gerunds.items s
  body_runs (body.ReinstateLabel label) kinded covered s = refl
  body_runs (body.ReinstateKinds gerunds) kinded covered s =
      gerunds_run ReinstateKind (λ g s. done (set_kind_abstained program false g s)) (λ g s. refl) gerunds.items s
  body_runs body.GiveUp kinded covered s = refl
  body_runs (body.WriteIn places) kinded covered s =
      members_run place_tree (read_ops slots) read_place place_reads places.items kinded covered s
  body_runs (body.ReadOut items) kinded covered s =
      members_run item_tree (print_ops slots) print_item (λ item. item_prints (item_tree item)) items.items kinded
      covered s
  body_runs body.Unrecognised kinded covered s = refl
