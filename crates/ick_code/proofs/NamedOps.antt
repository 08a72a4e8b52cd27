-- The operations of bodies name only slots and statements that exist, and only the last one leads elsewhere.
use Rattle.std.proofs.Common.{◌≡◌, ℕ, zero, suc, ◌+◌, ◌<◌, Bool, true, false, not, ◌&&◌, List, [], ◌∷◌, ◌++◌}
use Rattle.std.proofs.Common.{length, map, Option, Some, refl, sym, ap, ◌∙◌, ⊎_elim, subst, arith}
use Rattle.std.proofs.Common.{length-append, lt-ltb, le-leb}
use Rattle.std.specs.Prelude.{◌==◌, nat_lt, nat_le, slice_get, option_and_then, IsSomeAnd, if◌then◌else◌}
use Rattle.std.specs.List.{flat_map, list_all, AllPass}
use Rattle.std.proofs.lemmas.Bool.{cases_lt}
use Rattle.std.proofs.lemmas.Bool.Decides.{nat_tests}
use Rattle.std.proofs.lemmas.List.Folds.{list_all-append}
use Rattle.std.proofs.lemmas.List.Sums.{AllPass-from_list_all}
use Rattle.std.proofs.lemmas.Option.{slice_get_within}
use Rattle.ick_bits.specs.declared.faults.FaultKind.TheVariants.{NoNextLabel, NoAbstainLabel}
use Rattle.ick_syntax.specs.declared.labels.LabelUse.{LabelUse}
use Rattle.ick_syntax.specs.declared.labels.LabelUse.TheVariants as used
use Rattle.ick_syntax.specs.declared.tree.Name.{Name}
use Rattle.ick_syntax.specs.declared.tree.UnaryOp.{UnaryOp}
use Rattle.ick_syntax.specs.declared.tree.UnaryOp.TheVariants as unary_op
use Rattle.ick_syntax.specs.declared.tree.BinaryOp.{BinaryOp}
use Rattle.ick_syntax.specs.declared.tree.BinaryOp.TheVariants as binary_op
use Rattle.ick_syntax.specs.declared.body.Gerund.{Gerund}
use Rattle.ick_syntax.specs.declared.body.Target.{Target}
use Rattle.ick_syntax.specs.declared.body.Target.TheVariants as to
use Rattle.ick_syntax.specs.declared.body.Place.{Place}
use Rattle.ick_syntax.specs.declared.body.Place.TheVariants as from
use Rattle.ick_syntax.specs.declared.body.Body.{Body}
use Rattle.ick_syntax.specs.declared.body.Body.TheVariants as body
use Rattle.ick_syntax.specs.Tree.{Tree, mesh, scalar, element, unary, binary, Trees, none, more, tree_of, trees_in}
use Rattle.ick_syntax.specs.StatementTree.{StatementTree}
use Rattle.ick_syntax.specs.NameKinds.{is_array, count_in, are_few, is_kinded, are_kinded, is_item_kinded}
use Rattle.ick_syntax.specs.NameKinds.{is_body_kinded}
use Rattle.ick_syntax.specs.BodyTree.{ItemTree, single, whole, target_tree, place_tree, item_tree, body_tree_of}
use Rattle.ick_syntax.specs.ProgramFaults.{HoldsAt, HasLabel, used_label, IsSound}
use Rattle.ick_code.specs.declared.op.Op.{Op}
use Rattle.ick_code.specs.declared.op.Op.TheVariants.{Load, Fetch, Store, StoreAt, Resize, Call, Forget, Resume, Save}
use Rattle.ick_code.specs.declared.op.Op.TheVariants.{Restore, Hide, Show, AbstainOne, ReinstateOne, AbstainKind}
use Rattle.ick_code.specs.declared.op.Op.TheVariants.{ReinstateKind, Print, ReadTo, ReadAt, PrintArray, ReadArray}
use Rattle.ick_code.specs.declared.op.Op.TheVariants.{Stop, Fail}
use Rattle.ick_code.specs.declared.op.SlotName.{SlotName}
use Rattle.ick_code.specs.declared.op.SlotName.TheVariants.{Scalar, Array}
use Rattle.ick_code.specs.meaning.Control.{is_label, place_of}
use Rattle.ick_code.specs.Effects.{Slots, name_at}
use Rattle.ick_code.specs.Names.{names_of_tree, names_of_trees, names_of_item, names_of_body, slot_in, slot_name}
use Rattle.ick_code.specs.Operations.{unary_op_of, binary_op_of, ops_of_tree, ops_of_trees, ops_of_item, store_ops}
use Rattle.ick_code.specs.Operations.{read_ops, print_ops, name_ops, gerund_ops, ops_of_body}
use Rattle.ick_code.specs.Code.{is_slot, is_number, names_existing, leads_elsewhere, LeadsLast}
use Rattle.ick_code.proofs.Covers.{Covers, covers_left, covers_right, covers_head, covers_tail, scalar_slot, array_slot}
use Rattle.ick_code.proofs.Covers.{tail_is_array, HasSlot}
use Rattle.ick_code.proofs.Bools.{both_left, both_right, first_of, third_of}
use Rattle.ick_code.proofs.Members.{some_is, push_cases}
use Rattle.ick_code.proofs.Leads.{label_within}
use Rattle.ick_code.proofs.Trees.{kinded-listed, names-listed}

other_label : (label : ℕ) (o : Option ℕ) → is_label label o ≡ false → o ≡ Some label → ⊥
other_label label o is e =
    let same : (label == label) ≡ false = ap (is_label label) (sym e) ∙ is in
    absurd (grind (arith, same, nat_tests))

-- a label whose place is past the last statement is that of none
missing : (label : ℕ) (program : List StatementTree) →
    length program < place_of label program →
    (n : ℕ) → HoldsAt (HasLabel label) program n → ⊥
missing label program past zero has = has
missing label [] past (suc n) has = has
missing label (statement ∷ rest) past (suc n) has =
    cases (is_label label statement.label) refl past n has (λ low n has. missing label rest low (suc n) has)
  where
    cases : (b : Bool) → is_label label statement.label ≡ b →
        length (statement ∷ rest) < (if b then 1 else place_of label rest + 1) → (n : ℕ) →
        HoldsAt (HasLabel label) (statement ∷ rest) (suc n) →
        (length rest < place_of label rest → (n : ℕ) → HoldsAt (HasLabel label) rest (suc n) → ⊥) → ⊥
    cases true is past n has others = omega arith
    cases false is past zero has others = other_label label statement.label is has
    cases false is past (suc n) has others = others (omega arith) n has

-- each label that a statement uses is that of a statement
pub used_exists : (program : List StatementTree) (n : ℕ) (statement : StatementTree) (how : LabelUse) (label : ℕ) →
    IsSound program →
    slice_get program n ≡ Some statement →
    option_and_then (used_label how) statement.body ≡ Some label →
    is_number (length program) (place_of label program) ≡ true
used_exists program n statement how label sound at uses =
    ap (λ b. b && nat_le (place_of label program) (length program)) (le-leb _ _ (label_within label program).0)
    ∙ le-leb _ _ (⊎_elim (λ past. absurd (lost how uses past)) (λ low. low)
    (cases_lt (length program) (place_of label program)))
  where
    lost : (how : LabelUse) → option_and_then (used_label how) statement.body ≡ Some label →
        length program < place_of label program → ⊥
    lost used.Next uses past =
        sound NoNextLabel (suc n) (record {
          label = label;
          uses =
              subst (λ o. IsSomeAnd o (λ t. option_and_then (used_label used.Next) t.body ≡ Some label)) (sym at) uses;
          nowhere = missing label program past;
        })
    lost used.Abstain uses past =
        sound NoAbstainLabel (suc n) (record {
          label = label;
          uses =
              subst (λ o. IsSomeAnd o (λ t. option_and_then (used_label used.Abstain) t.body ≡ Some label)) (sym at)
              uses;
          nowhere = missing label program past;
        })

module _ (count : ℕ) (slots : Slots) where
  -- an operation that names only what exists, and doesn't lead elsewhere
  abbrev goes_on : Op → Bool
  goes_on op = names_existing count slots op && not (leads_elsewhere op)

  abbrev GoOn : List Op → Type 0
  GoOn ops = list_all goes_on ops ≡ true

  -- operations that name only what exists, of which only the last may lead elsewhere
  pub record Settled (ops : List Op) : Type 0 where
    pub named : AllPass (names_existing count slots) ops
    pub leads : LeadsLast ops

  one : (op : Op) → names_existing count slots op ≡ true → leads_elsewhere op ≡ false → GoOn (op ∷ [])
  one op named stays = ap (λ b. (b && not (leads_elsewhere op)) && true) named ∙ ap (λ b. not b && true) stays

  both : (xs ys : List Op) → GoOn xs → GoOn ys → GoOn (xs ++ ys)
  both xs ys h k = list_all-append goes_on xs ys ∙ ap (λ b. b && list_all goes_on ys) h ∙ k

  names_all : (xs : List Op) → GoOn xs → list_all (names_existing count slots) xs ≡ true
  names_all [] h = refl
  names_all (op ∷ ops) h =
      ap (λ b. b && list_all (names_existing count slots) ops)
      (both_left (names_existing count slots op) (not (leads_elsewhere op))
      (both_left (goes_on op) (list_all goes_on ops) h))
      ∙ names_all ops (both_right (goes_on op) (list_all goes_on ops) h)

  stays : (xs : List Op) → GoOn xs → (k : ℕ) (op : Op) → slice_get xs k ≡ Some op → leads_elsewhere op ≡ true → ⊥
  stays [] h k op at leads = absurd (cc)
  stays (x ∷ xs) h zero op at leads =
      let here =
      both_right (names_existing count slots x) (not (leads_elsewhere x))
      (both_left (goes_on x) (list_all goes_on xs) h) in
      let same : leads_elsewhere x ≡ true = ap leads_elsewhere (some_is x op at) ∙ leads in
      absurd (cc)
  stays (x ∷ xs) h (suc k) op at leads = stays xs (both_right (goes_on x) (list_all goes_on xs) h) k op at leads

  going : (xs : List Op) → GoOn xs → Settled xs
  going xs h = record {
    named = AllPass-from_list_all (names_existing count slots) xs (names_all xs h);
    leads = λ k op at leads. absurd (stays xs h k op at leads);
  }

  ending : (xs : List Op) (op : Op) → GoOn xs → names_existing count slots op ≡ true → Settled (xs ++ op ∷ [])
  ending xs op h named = record {
    named =
        AllPass-from_list_all (names_existing count slots) (xs ++ op ∷ [])
        (list_all-append (names_existing count slots) xs (op ∷ [])
        ∙ ap (λ b. b && (names_existing count slots op && true)) (names_all xs h)
        ∙ ap (λ b. b && true) named);
    leads = λ k other at leads.
        ⊎_elim (λ before. absurd (stays xs h k other before leads))
        (λ last. ap (λ n. n + 1) last.0 ∙ sym (length-append xs (op ∷ []))) (push_cases xs op k other at);
  }

  scalar_in : (name : Name) → not (is_array name.kind) ≡ true → HasSlot slots name →
      is_slot slots (Scalar (slot_in slots.scalars name)) ≡ true
  scalar_in name kinded has =
      lt-ltb _ _ (slice_get_within slots.scalars (slot_in slots.scalars name) name
      (scalar_slot slots name kinded has))

  array_in : (name : Name) → is_array name.kind ≡ true → HasSlot slots name →
      is_slot slots (Array (slot_in slots.arrays name)) ≡ true
  array_in name kinded has =
      lt-ltb _ _ (slice_get_within slots.arrays (slot_in slots.arrays name) name (array_slot slots name kinded has))

  name_in : (name : Name) → HasSlot slots name → is_slot slots (slot_name slots name) ≡ true
  name_in name has = at (slot_name slots name) has
    where
      at : (slot : SlotName) → name_at slots slot ≡ Some name → is_slot slots slot ≡ true
      at (Scalar slot) e = lt-ltb _ _ (slice_get_within slots.scalars slot name e)
      at (Array slot) e = lt-ltb _ _ (slice_get_within slots.arrays slot name e)

  unary_goes : (op : UnaryOp) → GoOn (unary_op_of op ∷ [])
  unary_goes unary_op.And = refl
  unary_goes unary_op.Or = refl
  unary_goes unary_op.Xor = refl

  binary_goes : (op : BinaryOp) → GoOn (binary_op_of op ∷ [])
  binary_goes binary_op.Mingle = refl
  binary_goes binary_op.Select = refl

  mutual
    tree_goes : (t : Tree) → is_kinded t ≡ true → Covers slots (names_of_tree t) → GoOn (ops_of_tree slots t)
    tree_goes (mesh n) kinded covered = refl
    tree_goes (scalar name) kinded covered =
        one (Load (slot_in slots.scalars name)) (scalar_in name kinded (covers_head slots name [] covered)) refl
    tree_goes (element array ts) kinded covered =
        both (ops_of_trees slots ts) (Fetch (slot_in slots.arrays array) (count_in ts) ∷ [])
        (trees_go ts (third_of (is_array array.kind) (are_few ts) (are_kinded ts) kinded)
        (covers_tail slots array (names_of_trees ts) covered))
        (one (Fetch (slot_in slots.arrays array) (count_in ts))
        (array_in array (first_of (is_array array.kind) (are_few ts) (are_kinded ts) kinded)
        (covers_head slots array (names_of_trees ts) covered)) refl)
    tree_goes (unary op t) kinded covered =
        both (ops_of_tree slots t) (unary_op_of op ∷ []) (tree_goes t kinded covered) (unary_goes op)
    tree_goes (binary op a b) kinded covered =
        both (ops_of_tree slots a ++ ops_of_tree slots b) (binary_op_of op ∷ [])
        (both (ops_of_tree slots a) (ops_of_tree slots b)
        (tree_goes a (both_left (is_kinded a) (is_kinded b) kinded)
        (covers_left slots (names_of_tree a) (names_of_tree b) covered))
        (tree_goes b (both_right (is_kinded a) (is_kinded b) kinded)
        (covers_right slots (names_of_tree a) (names_of_tree b) covered)))
        (binary_goes op)

    trees_go : (ts : Trees) → are_kinded ts ≡ true → Covers slots (names_of_trees ts) → GoOn (ops_of_trees slots ts)
    trees_go none kinded covered = refl
    trees_go (more t ts) kinded covered =
        both (ops_of_tree slots t) (ops_of_trees slots ts)
        (tree_goes t (both_left (is_kinded t) (are_kinded ts) kinded)
        (covers_left slots (names_of_tree t) (names_of_trees ts) covered))
        (trees_go ts (both_right (is_kinded t) (are_kinded ts) kinded)
        (covers_right slots (names_of_tree t) (names_of_trees ts) covered))

  -- an operation on an element
  element_goes : (array : Name) (ts : Trees) (make : ℕ → Op) → is_kinded (element array ts) ≡ true →
      Covers slots (array ∷ names_of_trees ts) →
      (is_slot slots (Array (slot_in slots.arrays array)) ≡ true →
      names_existing count slots (make (count_in ts)) ≡ true) →
      leads_elsewhere (make (count_in ts)) ≡ false →
      GoOn (ops_of_trees slots ts ++ make (count_in ts) ∷ [])
  element_goes array ts make kinded covered named on =
      both (ops_of_trees slots ts) (make (count_in ts) ∷ [])
      (trees_go ts (third_of (is_array array.kind) (are_few ts) (are_kinded ts) kinded)
      (covers_tail slots array (names_of_trees ts) covered))
      (one (make (count_in ts)) (named
      (array_in array (first_of (is_array array.kind) (are_few ts) (are_kinded ts) kinded)
      (covers_head slots array (names_of_trees ts) covered))) on)

  target_goes : (target : Target) → is_kinded (target_tree target) ≡ true →
      Covers slots (names_of_tree (target_tree target)) → GoOn (store_ops slots target)
  target_goes (to.Scalar name) kinded covered =
      one (Store (slot_in slots.scalars name)) (scalar_in name kinded (covers_head slots name [] covered)) refl
  target_goes (to.Element e) kinded covered =
      element_goes e.array (trees_in e.subs.items) (StoreAt (slot_in slots.arrays e.array)) kinded covered
      (λ named. named) refl

  place_goes : (place : Place) → is_item_kinded (place_tree place) ≡ true →
      Covers slots (names_of_item (place_tree place)) → GoOn (read_ops slots place)
  place_goes (from.Scalar name) kinded covered =
      one (ReadTo (slot_in slots.scalars name)) (scalar_in name kinded (covers_head slots name [] covered)) refl
  place_goes (from.Element e) kinded covered =
      element_goes e.array (trees_in e.subs.items) (ReadAt (slot_in slots.arrays e.array)) kinded covered
      (λ named. named) refl
  place_goes (from.Array name) kinded covered =
      one (ReadArray (slot_in slots.arrays name))
      (array_in name (tail_is_array name.kind kinded) (covers_head slots name [] covered)) refl

  item_goes : (item : ItemTree) → is_item_kinded item ≡ true →
      Covers slots (names_of_item item) → GoOn (ops_of_item slots item)
  item_goes (single t) kinded covered = both (ops_of_tree slots t) (Print ∷ []) (tree_goes t kinded covered) refl
  item_goes (whole name) kinded covered =
      one (PrintArray (slot_in slots.arrays name))
      (array_in name (tail_is_array name.kind kinded) (covers_head slots name [] covered)) refl

  members_go : {A : Type 0} (tree : A → ItemTree) (ops : A → List Op) →
      ((x : A) → is_item_kinded (tree x) ≡ true → Covers slots (names_of_item (tree x)) → GoOn (ops x)) →
      (xs : List A) → list_all is_item_kinded (map tree xs) ≡ true →
      Covers slots (flat_map names_of_item (map tree xs)) → GoOn (flat_map ops xs)
  members_go tree ops each [] kinded covered = refl
  members_go tree ops each (x ∷ xs) kinded covered =
      let t = tree x in
      let ts = map tree xs in
      both (ops x) (flat_map ops xs)
      (each x (both_left (is_item_kinded t) (list_all is_item_kinded ts) kinded)
      (covers_left slots (names_of_item t) (flat_map names_of_item ts) covered))
      (members_go tree ops each xs (both_right (is_item_kinded t) (list_all is_item_kinded ts) kinded)
      (covers_right slots (names_of_item t) (flat_map names_of_item ts) covered))

  names_go : (make : SlotName → Op) →
      ((slot : SlotName) → is_slot slots slot ≡ true → names_existing count slots (make slot) ≡ true) →
      ((slot : SlotName) → leads_elsewhere (make slot) ≡ false) →
      (names : List Name) → Covers slots names → GoOn (name_ops slots make names)
  names_go make named stays [] covered = refl
  names_go make named stays (name ∷ names) covered =
      let slot = slot_name slots name in
      both (make slot ∷ []) (name_ops slots make names)
      (one (make slot) (named slot (name_in name (covers_head slots name names covered))) (stays slot))
      (names_go make named stays names (covers_tail slots name names covered))

  gerunds_go : (make : Gerund → Op) → ((gerund : Gerund) → GoOn (make gerund ∷ [])) → (gerunds : List Gerund) →
      GoOn (gerund_ops make gerunds)
  gerunds_go make each [] = refl
  gerunds_go make each (gerund ∷ gerunds) =
      both (make gerund ∷ []) (gerund_ops make gerunds) (each gerund) (gerunds_go make each gerunds)

  -- the operations of a body, if the labels that it uses exist
  pub body_settled : (number : ℕ → ℕ) (b : Body) → is_body_kinded (body_tree_of b) ≡ true →
      Covers slots (names_of_body (body_tree_of b)) →
      ((how : LabelUse) (label : ℕ) → option_and_then (used_label how) (body_tree_of b) ≡ Some label →
      is_number count (number label) ≡ true) →
      Settled (ops_of_body number slots b)
  body_settled number (body.Calculate target e) kinded covered labels =
      let t = target_tree target in
      going _ (both (ops_of_tree slots (tree_of e)) (store_ops slots target)
      (tree_goes (tree_of e) (both_right (is_kinded t) (is_kinded (tree_of e)) kinded)
      (covers_right slots (names_of_tree t) (names_of_tree (tree_of e)) covered))
      (target_goes target (both_left (is_kinded t) (is_kinded (tree_of e)) kinded)
      (covers_left slots (names_of_tree t) (names_of_tree (tree_of e)) covered)))
  body_settled number (body.Dimension array es) kinded covered labels =
      let ts = trees_in es.items in
      let all = list_all is_kinded (map tree_of es.items) in
      let few = nat_lt (length (map tree_of es.items)) 4294967296 in
      let named = covers_tail slots array (flat_map names_of_tree (map tree_of es.items)) covered in
      going _ (both (ops_of_trees slots ts) (Resize (slot_in slots.arrays array) (count_in ts) ∷ [])
      (trees_go ts (kinded-listed es.items (third_of (is_array array.kind) few all kinded))
      (subst (Covers slots) (names-listed es.items) named))
      (one (Resize (slot_in slots.arrays array) (count_in ts))
      (array_in array (first_of (is_array array.kind) few all kinded)
      (covers_head slots array (flat_map names_of_tree (map tree_of es.items)) covered)) refl))
  body_settled number (body.Next label) kinded covered labels =
      ending [] (Call (number label)) refl (labels used.Next label refl)
  body_settled number (body.Forget e) kinded covered labels =
      ending (ops_of_tree slots (tree_of e)) Forget (tree_goes (tree_of e) kinded covered) refl
  body_settled number (body.Resume e) kinded covered labels =
      ending (ops_of_tree slots (tree_of e)) Resume (tree_goes (tree_of e) kinded covered) refl
  body_settled number (body.Stash names) kinded covered labels =
      going _ (names_go Save (λ slot named. named) (λ slot. refl) names.items covered)
  body_settled number (body.Retrieve names) kinded covered labels =
      going _ (names_go Restore (λ slot named. named) (λ slot. refl) names.items covered)
  body_settled number (body.Ignore names) kinded covered labels =
      going _ (names_go Hide (λ slot named. named) (λ slot. refl) names.items covered)
  body_settled number (body.Remember names) kinded covered labels =
      going _ (names_go Show (λ slot named. named) (λ slot. refl) names.items covered)
  body_settled number (body.AbstainLabel label) kinded covered labels =
      going _ (one (AbstainOne (number label)) (labels used.Abstain label refl) refl)
  body_settled number (body.AbstainKinds gerunds) kinded covered labels =
      going _ (gerunds_go AbstainKind (λ gerund. refl) gerunds.items)
  body_settled number (body.ReinstateLabel label) kinded covered labels =
      going _ (one (ReinstateOne (number label)) (labels used.Abstain label refl) refl)
  body_settled number (body.ReinstateKinds gerunds) kinded covered labels =
      going _ (gerunds_go ReinstateKind (λ gerund. refl) gerunds.items)
  body_settled number body.GiveUp kinded covered labels = ending [] Stop refl refl
  body_settled number (body.WriteIn places) kinded covered labels =
      going _ (members_go place_tree (read_ops slots) place_goes places.items kinded covered)
  body_settled number (body.ReadOut items) kinded covered labels =
      going _ (members_go item_tree (print_ops slots) (λ item. item_goes (item_tree item)) items.items kinded covered)
  body_settled number body.Unrecognised kinded covered labels = ending [] Fail refl refl
