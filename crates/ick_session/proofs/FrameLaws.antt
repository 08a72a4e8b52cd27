-- What the operations of a statement leave as it was: one lemma for each thing that an operation does.
use Rattle.std.proofs.Common.{◌≡◌, ℕ, zero, suc, ◌+◌, ◌==◌, Bool, true, false, if◌then◌else◌, List, [], ◌∷◌, ◌++◌}
use Rattle.std.proofs.Common.{length, map, refl, sym, ◌∙◌, subst}
use Rattle.std.specs.Prelude.{nat_le, nat_lt, drop, take, reverse, Option, Some, None, Result, Ok, Err, slice_get}
use Rattle.std.specs.List.{list_any}
use Rattle.ick_bits.specs.Values.{number_of}
use Rattle.ick_bits.specs.Digits.{line_answer}
use Rattle.ick_bits.specs.Numeral.{numeral_of, printed}
use Rattle.ick_bits.specs.declared.values.Value.{Value}
use Rattle.ick_bits.specs.declared.digits.DigitFault.{DigitFault}
use Rattle.ick_bits.specs.declared.digits.DigitFault.TheVariants.{Word, TooLarge}
use Rattle.ick_bits.specs.declared.faults.FaultKind.{FaultKind}
use Rattle.ick_syntax.specs.declared.tree.BinaryOp.TheVariants as binary_op
use Rattle.ick_syntax.specs.declared.tree.Name.{Name}
use Rattle.ick_syntax.specs.NameKinds.{is_array}
use Rattle.ick_syntax.specs.StatementTree.{StatementTree}
use Rattle.ick_code.specs.declared.op.Op.{Op}
use Rattle.ick_code.specs.declared.op.Op.TheVariants.{Constant, Load, Fetch, And, Or, Xor, Mingle, Select, Store}
use Rattle.ick_code.specs.declared.op.Op.TheVariants.{StoreAt, Resize, Call, Forget, Resume, Save, Restore, Hide, Show}
use Rattle.ick_code.specs.declared.op.Op.TheVariants.{AbstainOne, ReinstateOne, AbstainKind, ReinstateKind, Print}
use Rattle.ick_code.specs.declared.op.Op.TheVariants.{ReadTo, ReadAt, PrintArray, ReadArray, Stop, Fail}
use Rattle.ick_code.specs.declared.op.SlotName.TheVariants.{Scalar, Array as ArraySlot}
use Rattle.ick_code.specs.Effects.{Slots, Flow, going, broken, stuck, flow_of, gives, on_one, on_two, on_last, at_name}
use Rattle.ick_code.specs.Effects.{effect, effects, then_flow}
use Rattle.ick_code.specs.meaning.State.{State, Array, Ending, faulted, gave_up, with_entry}
use Rattle.ick_code.specs.meaning.Completion.{Completion, done, faults}
use Rattle.ick_code.specs.meaning.Value.{binary_value, element_value, element_offset, product}
use Rattle.ick_code.specs.meaning.Store.{set_scalar, set_array, store, store_at, store_within, resize, most_elements}
use Rattle.ick_code.specs.meaning.Store.{zeros, bound_of}
use Rattle.ick_code.specs.meaning.Control.{call, resume, resume_at, most_returns}
use Rattle.ick_code.specs.meaning.Stash.{stash, retrieve, retrieve_scalar, retrieve_array}
use Rattle.ick_code.specs.meaning.Abstain.{can_be_set}
use Rattle.ick_code.specs.meaning.InputOutput.{first_line, later_lines, with_number, with_input, read_to, read_within}
use Rattle.ick_code.specs.meaning.InputOutput.{read_at, print}
use Rattle.ick_code.specs.meaning.Tape.{tape_bytes, tape_after, tape_numbers, take_bytes, with_elements, print_array}
use Rattle.ick_code.specs.meaning.Tape.{read_array, last_read}
use Rattle.ick_code.specs.meaning.Do.{do_body, do_statement, ended_by}
use Rattle.ick_session.specs.Targets.{changed_name, is_of_abstaining}

-- what is seen of a state, which no change but one of names or abstentions alters
pub record IsSteady (A : Type 0) (view : State → A) : Type 0 where
  pub other : (s : State) (place : ℕ) (returns input output : List ℕ) (last lastin : ℕ) (end : Option Ending) →
      view (record s {
        place = place;
        returns = returns;
        input = input;
        output = output;
        last = last;
        lastin = lastin;
        end = end;
      })
      ≡ view s

-- no change of a name alters it
pub record IsApart (A : Type 0) (view : State → A) (name : Name) : Type 0 where
  pub scalars : (s : State) (n : ℕ) → view (record s { scalars = with_entry s.scalars name n }) ≡ view s
  pub arrays : (s : State) (array : Array) → view (record s { arrays = with_entry s.arrays name array }) ≡ view s
  pub stashed_scalars : (s : State) (ns : List ℕ) →
      view (record s { stashed_scalars = with_entry s.stashed_scalars name ns }) ≡ view s
  pub stashed_arrays : (s : State) (arrays : List Array) →
      view (record s { stashed_arrays = with_entry s.stashed_arrays name arrays }) ≡ view s
  pub ignored : (s : State) (on : Bool) → view (record s { ignored = with_entry s.ignored name on }) ≡ view s

-- no change of abstentions alters it
abbrev pub IsSettled : (A : Type 0) (view : State → A) → Type 0
IsSettled A view = (s : State) (flags : ℕ → Bool) → view (record s { abstained = flags }) ≡ view s

-- an operation that may change a name or abstentions doesn't alter it
pub record IsAside (A : Type 0) (view : State → A) (slots : Slots) (op : Op) : Type 0 where
  pub names : (name : Name) → changed_name slots op ≡ Some name → IsApart A view name
  pub abstentions : is_of_abstaining op ≡ true → IsSettled A view

abbrev pub AreAside : (A : Type 0) (view : State → A) → Slots → List Op → Type 0
AreAside A view slots [] = Unit {0}
AreAside A view slots (op ∷ ops) = IsAside A view slots op × AreAside A view slots ops

module _ (A : Type 0) (view : State → A) (steady : IsSteady A view) (a : A) where
  abbrev Rests : Completion → Type 0
  Rests (done t) = view t ≡ a
  Rests (faults kind subject t) = view t ≡ a

  abbrev Leaves : Flow → Type 0
  Leaves (going operands t) = view t ≡ a
  Leaves (broken kind subject t) = view t ≡ a
  Leaves stuck = Unit {0}

  if_state : (b : Bool) (x y : State) → view x ≡ a → view y ≡ a → view (if b then x else y) ≡ a
  if_state true x y e f = e
  if_state false x y e f = f

  if_completion : (b : Bool) (x y : Completion) → Rests x → Rests y → Rests (if b then x else y)
  if_completion true x y e f = e
  if_completion false x y e f = f

  -- stores
  scalar_rests : (name : Name) (n : ℕ) (s : State) → IsApart A view name → view s ≡ a →
      view (set_scalar name n s) ≡ a
  scalar_rests name n s apart e =
      if_state (s.ignored name) s (record s { scalars = with_entry s.scalars name n }) e (apart.scalars s n ∙ e)

  array_rests : (name : Name) (array : Array) (s : State) → IsApart A view name → view s ≡ a →
      view (set_array name array s) ≡ a
  array_rests name array s apart e =
      if_state (s.ignored name) s (record s { arrays = with_entry s.arrays name array }) e (apart.arrays s array ∙ e)

  store_rests : (name : Name) (n : ℕ) (s : State) → IsApart A view name → view s ≡ a → Rests (store name n s)
  store_rests name n s apart e =
      if_completion (nat_lt n (bound_of name.kind)) _ _ (scalar_rests name n s apart e) e

  within_rests : (name : Name) (place : Option ℕ) (n : ℕ) (s : State) → IsApart A view name → view s ≡ a →
      Rests (store_within name place n s)
  within_rests name None n s apart e = e
  within_rests name (Some place) n s apart e =
      if_completion (nat_lt n (bound_of name.kind)) _ _ (array_rests name _ s apart e) e

  resize_rests : (name : Name) (dimensions : List ℕ) (s : State) → IsApart A view name → view s ≡ a →
      Rests (resize name dimensions s)
  resize_rests name dimensions s apart e =
      if_completion (list_any (λ d. d == 0) dimensions) _ _ e
      (if_completion (nat_lt most_elements (product dimensions)) _ _ e
      (array_rests name (zeros dimensions) s apart e))

  -- control
  call_rests : (to : ℕ) (s : State) → view s ≡ a → Rests (call to s)
  call_rests to s e =
      if_completion (nat_lt (length s.returns) most_returns) _ _
      (steady.other s to (s.place ∷ s.returns) s.input s.output s.last s.lastin s.end ∙ e) e

  resume_at_rests : (to : Option ℕ) (n : ℕ) (s : State) → view s ≡ a → Rests (resume_at to n s)
  resume_at_rests None n s e = e
  resume_at_rests (Some to) n s e =
      steady.other s to (drop n s.returns) s.input s.output s.last s.lastin s.end ∙ e

  resume_rests : (n : ℕ) (s : State) → view s ≡ a → Rests (resume n s)
  resume_rests zero s e = e
  resume_rests (suc n) s e = resume_at_rests (slice_get s.returns n) (suc n) s e

  -- stashes
  stash_rests : (name : Name) (s : State) → IsApart A view name → view s ≡ a → view (stash name s) ≡ a
  stash_rests name s apart e =
      if_state (is_array name.kind) _ _ (apart.stashed_arrays s (s.arrays name ∷ s.stashed_arrays name) ∙ e)
      (apart.stashed_scalars s (s.scalars name ∷ s.stashed_scalars name) ∙ e)

  retrieve_scalar_rests : (name : Name) (ns : List ℕ) (s : State) → IsApart A view name → view s ≡ a →
      Rests (retrieve_scalar name ns s)
  retrieve_scalar_rests name [] s apart e = e
  retrieve_scalar_rests name (n ∷ rest) s apart e =
      scalar_rests name n (record s { stashed_scalars = with_entry s.stashed_scalars name rest }) apart
      (apart.stashed_scalars s rest ∙ e)

  retrieve_array_rests : (name : Name) (arrays : List Array) (s : State) → IsApart A view name → view s ≡ a →
      Rests (retrieve_array name arrays s)
  retrieve_array_rests name [] s apart e = e
  retrieve_array_rests name (array ∷ rest) s apart e =
      array_rests name array (record s { stashed_arrays = with_entry s.stashed_arrays name rest }) apart
      (apart.stashed_arrays s rest ∙ e)

  retrieve_rests : (name : Name) (s : State) → IsApart A view name → view s ≡ a → Rests (retrieve name s)
  retrieve_rests name s apart e =
      if_completion (is_array name.kind) _ _ (retrieve_array_rests name (s.stashed_arrays name) s apart e)
      (retrieve_scalar_rests name (s.stashed_scalars name) s apart e)

  -- input and output
  number_rests : (line : List ℕ) (r : Result ℕ DigitFault) (s : State) (go : ℕ → State → Completion) →
      view s ≡ a → ((n : ℕ) (t : State) → view t ≡ a → Rests (go n t)) → Rests (with_number line r s go)
  number_rests line (Ok n) s go e f = f n s e
  number_rests line (Err (Word from to)) s go e f = e
  number_rests line (Err TooLarge) s go e f = e

  input_rests : (input : List ℕ) (s : State) (go : ℕ → State → Completion) → view s ≡ a →
      ((n : ℕ) (t : State) → view t ≡ a → Rests (go n t)) → Rests (with_input input s go)
  input_rests [] s go e f = e
  input_rests (b ∷ bs) s go e f =
      number_rests (first_line (b ∷ bs)) (line_answer (first_line (b ∷ bs)))
      (record s { input = later_lines (b ∷ bs) }) go
      (steady.other s s.place s.returns (later_lines (b ∷ bs)) s.output s.last s.lastin s.end ∙ e) f

  read_to_rests : (name : Name) (s : State) → IsApart A view name → view s ≡ a → Rests (read_to name s)
  read_to_rests name s apart e =
      input_rests s.input s (λ n t. store name n t) e (λ n t f. store_rests name n t apart f)

  read_within_rests : (name : Name) (place : Option ℕ) (s : State) → IsApart A view name → view s ≡ a →
      Rests (read_within name place s)
  read_within_rests name None s apart e = e
  read_within_rests name (Some place) s apart e =
      input_rests s.input s (λ n t. store_within name (Some place) n t) e
      (λ n t f. within_rests name (Some place) n t apart f)

  print_rests : (n : ℕ) (s : State) → view s ≡ a → view (print n s) ≡ a
  print_rests n s e =
      steady.other s s.place s.returns s.input (s.output ++ printed (numeral_of n)) s.last s.lastin s.end ∙ e

  print_array_rests : (name : Name) (s : State) → view s ≡ a → Rests (print_array name s)
  print_array_rests name s e =
      if_completion (length (s.arrays name).dimensions == 1) _ _
      (steady.other s s.place s.returns s.input (s.output ++ tape_bytes s.last (s.arrays name).elements)
      (tape_after s.last (s.arrays name).elements) s.lastin s.end ∙ e) e

  read_array_rests : (name : Name) (s : State) → IsApart A view name → view s ≡ a → Rests (read_array name s)
  read_array_rests name s apart e =
      let count = length (s.arrays name).elements in
      let filled = with_elements (s.arrays name) (tape_numbers count s.lastin s.input) in
      if_completion (length (s.arrays name).dimensions == 1) _ _
      (array_rests name filled (take_bytes count s) apart
      (steady.other s s.place s.returns (drop count s.input) s.output s.last (last_read count s.lastin s.input) s.end
      ∙ e)) e

  ended : (n : ℕ) (o : Completion) → Rests o → view (ended_by n o) ≡ a
  ended n (done s) e = e
  ended n (faults kind subject s) e =
      steady.other s s.place s.returns s.input s.output s.last s.lastin (Some (faulted kind n subject)) ∙ e

  -- operations
  flows : (operands : List Value) (o : Completion) → Rests o → Leaves (flow_of operands o)
  flows operands (done s) e = e
  flows operands (faults kind subject s) e = e

  given : (r : Result Value FaultKind) (operands : List Value) (s : State) → view s ≡ a → Leaves (gives r operands s)
  given (Ok v) operands s e = e
  given (Err kind) operands s e = e

  named : (o : Option Name) (go : Name → Flow) → ((name : Name) → o ≡ Some name → Leaves (go name)) →
      Leaves (at_name o go)
  named None go l = tt
  named (Some name) go l = l name refl

  lasts : (k : ℕ) (operands : List Value) (go : List Value → List Value → Flow) →
      ((subs below : List Value) → Leaves (go subs below)) → Leaves (on_last k operands go)
  lasts k operands go l = cases (nat_le k (length operands))
    where
      cases : (b : Bool) → Leaves (if b then go (reverse (take k operands)) (drop k operands) else stuck)
      cases true = l (reverse (take k operands)) (drop k operands)
      cases false = tt

  ones : (operands : List Value) (go : Value → List Value → Flow) → ((v : Value) (rest : List Value) →
      Leaves (go v rest)) → Leaves (on_one operands go)
  ones [] go l = tt
  ones (v ∷ operands) go l = l v operands

  twos : (operands : List Value) (go : Value → Value → List Value → Flow) →
      ((v w : Value) (rest : List Value) → Leaves (go v w rest)) → Leaves (on_two operands go)
  twos [] go l = tt
  twos (w ∷ []) go l = tt
  twos (w ∷ v ∷ operands) go l = l v w operands

  then_leaves : (f : Flow) (go : List Value → State → Flow) → Leaves f →
      ((operands : List Value) (t : State) → view t ≡ a → Leaves (go operands t)) → Leaves (then_flow f go)
  then_leaves (going operands t) go l next = next operands t l
  then_leaves (broken kind subject t) go l next = l
  then_leaves stuck go l next = tt

  module _ (program : List StatementTree) (slots : Slots) (text : List ℕ) where
    effect_leaves : (op : Op) → IsAside A view slots op → (operands : List Value) (s : State) → view s ≡ a →
        Leaves (effect program slots text op operands s)
    effect_leaves (Constant v) aside operands s e = e
    effect_leaves (Load slot) aside operands s e = named (slice_get slots.scalars slot) _ (λ name at. e)
    effect_leaves (Fetch slot k) aside operands s e =
        named (slice_get slots.arrays slot) _ (λ name at. lasts k operands
        (λ subs below. gives (element_value name (s.arrays name) subs) below s)
        (λ subs below. given (element_value name (s.arrays name) subs) below s e))
    effect_leaves And aside operands s e = ones operands _ (λ v rest. e)
    effect_leaves Or aside operands s e = ones operands _ (λ v rest. e)
    effect_leaves Xor aside operands s e = ones operands _ (λ v rest. e)
    effect_leaves Mingle aside operands s e = twos operands _ (λ v w rest. given (binary_value binary_op.Mingle v w) rest s e)
    effect_leaves Select aside operands s e = twos operands _ (λ v w rest. given (binary_value binary_op.Select v w) rest s e)
    effect_leaves (Store slot) aside operands s e =
        named (slice_get slots.scalars slot) _ (λ name at. ones operands
        (λ v rest. flow_of rest (store name (number_of v) s))
        (λ v rest. flows rest (store name (number_of v) s) (store_rests name (number_of v) s (aside.names name at) e)))
    effect_leaves (StoreAt slot k) aside operands s e =
        named (slice_get slots.arrays slot) _ (λ name at. lasts k operands
        (λ subs below. on_one below (λ v rest. flow_of rest (store_at name subs (number_of v) s)))
        (λ subs below. ones below (λ v rest. flow_of rest (store_at name subs (number_of v) s))
        (λ v rest. flows rest (store_at name subs (number_of v) s)
        (within_rests name (element_offset (s.arrays name) subs) (number_of v) s (aside.names name at) e))))
    effect_leaves (Resize slot k) aside operands s e =
        named (slice_get slots.arrays slot) _ (λ name at. lasts k operands
        (λ dimensions below. flow_of below (resize name (map number_of dimensions) s))
        (λ dimensions below. flows below (resize name (map number_of dimensions) s)
        (resize_rests name (map number_of dimensions) s (aside.names name at) e)))
    effect_leaves (Call to) aside operands s e = flows operands (call to s) (call_rests to s e)
    effect_leaves Forget aside operands s e =
        ones operands _ (λ v rest. steady.other s s.place (drop (number_of v) s.returns) s.input s.output s.last
        s.lastin s.end ∙ e)
    effect_leaves Resume aside operands s e =
        ones operands (λ v rest. flow_of rest (resume (number_of v) s))
        (λ v rest. flows rest (resume (number_of v) s) (resume_rests (number_of v) s e))
    effect_leaves (Save (Scalar slot)) aside operands s e =
        named (slice_get slots.scalars slot) _ (λ name at. stash_rests name s (aside.names name at) e)
    effect_leaves (Save (ArraySlot slot)) aside operands s e =
        named (slice_get slots.arrays slot) _ (λ name at. stash_rests name s (aside.names name at) e)
    effect_leaves (Restore (Scalar slot)) aside operands s e =
        named (slice_get slots.scalars slot) (λ name. flow_of operands (retrieve name s))
        (λ name at. flows operands (retrieve name s) (retrieve_rests name s (aside.names name at) e))
    effect_leaves (Restore (ArraySlot slot)) aside operands s e =
        named (slice_get slots.arrays slot) (λ name. flow_of operands (retrieve name s))
        (λ name at. flows operands (retrieve name s) (retrieve_rests name s (aside.names name at) e))
    effect_leaves (Hide (Scalar slot)) aside operands s e =
        named (slice_get slots.scalars slot) _ (λ name at. (aside.names name at).ignored s true ∙ e)
    effect_leaves (Hide (ArraySlot slot)) aside operands s e =
        named (slice_get slots.arrays slot) _ (λ name at. (aside.names name at).ignored s true ∙ e)
    effect_leaves (Show (Scalar slot)) aside operands s e =
        named (slice_get slots.scalars slot) _ (λ name at. (aside.names name at).ignored s false ∙ e)
    effect_leaves (Show (ArraySlot slot)) aside operands s e =
        named (slice_get slots.arrays slot) _ (λ name at. (aside.names name at).ignored s false ∙ e)
    effect_leaves (AbstainOne n) aside operands s e =
        if_state (can_be_set program n) (record s { abstained = λ m. if m == n then true else s.abstained m }) s
        (aside.abstentions refl s _ ∙ e) e
    effect_leaves (ReinstateOne n) aside operands s e =
        if_state (can_be_set program n) (record s { abstained = λ m. if m == n then false else s.abstained m }) s
        (aside.abstentions refl s _ ∙ e) e
    effect_leaves (AbstainKind gerund) aside operands s e = aside.abstentions refl s _ ∙ e
    effect_leaves (ReinstateKind gerund) aside operands s e = aside.abstentions refl s _ ∙ e
    effect_leaves Print aside operands s e = ones operands _ (λ v rest. print_rests (number_of v) s e)
    effect_leaves (ReadTo slot) aside operands s e =
        named (slice_get slots.scalars slot) (λ name. flow_of operands (read_to name s))
        (λ name at. flows operands (read_to name s) (read_to_rests name s (aside.names name at) e))
    effect_leaves (ReadAt slot k) aside operands s e =
        named (slice_get slots.arrays slot) _ (λ name at. lasts k operands
        (λ subs below. flow_of below (read_at name subs s))
        (λ subs below. flows below (read_at name subs s)
        (read_within_rests name (element_offset (s.arrays name) subs) s (aside.names name at) e)))
    effect_leaves (PrintArray slot) aside operands s e =
        named (slice_get slots.arrays slot) (λ name. flow_of operands (print_array name s))
        (λ name at. flows operands (print_array name s) (print_array_rests name s e))
    effect_leaves (ReadArray slot) aside operands s e =
        named (slice_get slots.arrays slot) (λ name. flow_of operands (read_array name s))
        (λ name at. flows operands (read_array name s) (read_array_rests name s (aside.names name at) e))
    effect_leaves Stop aside operands s e =
        steady.other s s.place s.returns s.input s.output s.last s.lastin (Some gave_up) ∙ e
    effect_leaves Fail aside operands s e = e

    effects_leave : (ops : List Op) → AreAside A view slots ops → (operands : List Value) (s : State) → view s ≡ a →
        Leaves (effects program slots text ops operands s)
    effects_leave [] aside operands s e = e
    effects_leave (op ∷ ops) aside operands s e =
        then_leaves (effect program slots text op operands s) (effects program slots text ops)
        (effect_leaves op aside.0 operands s e) (λ operands' t f. effects_leave ops aside.1 operands' t f)

    -- the same of what comes of doing something, if the operations do it
    completion_rests : (ops : List Op) → AreAside A view slots ops → (s : State) (o : Completion) → view s ≡ a →
        effects program slots text ops [] s ≡ flow_of [] o → Rests o
    completion_rests ops aside s o e does =
        rested o (subst (λ f. Leaves f) does (effects_leave ops aside [] s e))
      where
        rested : (o : Completion) → Leaves (flow_of [] o) → Rests o
        rested (done t) l = l
        rested (faults kind subject t) l = l

    -- and of a statement that they are the operations of
    pub statement_leaves : (ops : List Op) (statement : StatementTree) (s : State) → AreAside A view slots ops →
        view s ≡ a →
        ((t : State) → effects program slots statement.text ops [] t
        ≡ flow_of [] (do_body program statement.text statement.body t)) →
        text ≡ statement.text → view (do_statement program statement s) ≡ a
    statement_leaves ops statement s aside e does same =
        let moved : State = record s { place = s.place + 1 } in
        ended s.place (do_body program statement.text statement.body moved)
        (completion_rests ops aside moved (do_body program statement.text statement.body moved)
        (steady.other s (s.place + 1) s.returns s.input s.output s.last s.lastin s.end ∙ e)
        (subst (λ words. effects program slots words ops [] moved
        ≡ flow_of [] (do_body program statement.text statement.body moved)) (sym same) (does moved)))
