-- What is seen of a compiled program.
use Rattle.std.proofs.Common.{◌≡◌, ℕ, zero, suc, ◌≤◌, ◌<◌, Bool, true, false, not, ◌&&◌, List, []}
use Rattle.std.proofs.Common.{take, length, Option}
use Rattle.std.proofs.Common.{Some, None, refl, sym, ap, ◌∙◌, subst, le_trans, arith, if◌then◌else◌}
use Rattle.std.proofs.Common.{◌∷◌, ◌-◌, get_or}
use Rattle.std.specs.Prelude.{filter, slice_get, slice_range, option_map}
use Rattle.std.specs.List.{IsDistinct, AllPass, list_all}
use Rattle.std.proofs.lemmas.List.Sums.{AllPass-from_list_all}
use Rattle.std.proofs.lemmas.List.{length-map}
use Rattle.std.proofs.lemmas.List.Elements.{All-nil}
use Rattle.std.proofs.lemmas.Option.{slice_get_within, slice_get-get_or, slice_get-map}
use Rattle.ick_syntax.specs.declared.tree.Name.{Name}
use Rattle.ick_syntax.specs.declared.kinds.Kind.{Kind}
use Rattle.ick_syntax.specs.StatementTree.{StatementTree}
use Rattle.ick_syntax.specs.Kinds.{kind_of}
use Rattle.ick_code.specs.declared.op.Op.{Op}
use Rattle.ick_code.specs.declared.code.CompiledStatement.{CompiledStatement}
use Rattle.ick_code.specs.declared.code.Code.{Code}
use Rattle.ick_code.specs.meaning.State.{same_name, statement_at}
use Rattle.ick_code.specs.Names.{is_scalar_name, is_array_name, each_once, names_of, slots_of}
use Rattle.ick_code.specs.Counts.{count_after, peak}
use Rattle.ick_code.specs.Code.{kinds_of, Means, names_existing, LeadsLast, FindOperands, IsCompiledStatement, IsCode}
use Rattle.ick_code.specs.Compiled.{code_program, code_statement, code_slots, compiled_at, ops_in, code_ops, Shows}
use Rattle.ick_code.specs.Compiled.{IsCompiled}
use Rattle.ick_code.proofs.SlotLemmas.{each_once-distinct}
use Rattle.ick_code.proofs.Bools.{both_left, both_right}
use Rattle.ick_code.proofs.Slotted.{slots_is}
use Rattle.ick_code.proofs.Members.{some_member}
use Rattle.ick_code.proofs.CountLemmas.{prefix-le, peak_reached}

passing_filtered : (p q : Name → Bool) (names : List Name) → list_all p names ≡ true →
    list_all p (filter q names) ≡ true
passing_filtered p q [] h = refl
passing_filtered p q (name ∷ names) h =
    cases (q name) (both_left (p name) (list_all p names) h)
    (passing_filtered p q names (both_right (p name) (list_all p names) h))
  where
    cases : (b : Bool) → p name ≡ true → list_all p (filter q names) ≡ true →
        list_all p (if b then name ∷ filter q names else filter q names) ≡ true
    cases true own rest = ap (λ b. b && list_all p (filter q names)) own ∙ rest
    cases false own rest = rest

passing_once : (p : Name → Bool) (names : List Name) → list_all p names ≡ true →
    list_all p (each_once names) ≡ true
passing_once p [] h = refl
passing_once p (name ∷ names) h =
    let rest =
    passing_filtered p (λ other. not (same_name name other)) (each_once names)
    (passing_once p names (both_right (p name) (list_all p names) h)) in
    ap (λ b. b && list_all p (filter (λ other. not (same_name name other)) (each_once names)))
    (both_left (p name) (list_all p names) h) ∙ rest

passing_own : (p : Name → Bool) (names : List Name) → list_all p (filter p names) ≡ true
passing_own p [] = refl
passing_own p (name ∷ names) = cases (p name) refl (passing_own p names)
  where
    cases : (b : Bool) → p name ≡ b → list_all p (filter p names) ≡ true →
        list_all p (if b then name ∷ filter p names else filter p names) ≡ true
    cases true own rest = ap (λ b. b && list_all p (filter p names)) own ∙ rest
    cases false own rest = rest

kept_names : (p : Name → Bool) (names : List Name) → AllPass p (each_once (filter p names))
kept_names p names =
    AllPass-from_list_all p (each_once (filter p names)) (passing_once p (filter p names) (passing_own p names))

-- what is kept of a statement
pub compiled_of : (program : List StatementTree) (code : Code) →
    IsCode program code.scalars.items code.arrays.items code.operands code.ops.items code.statements.items
    code.kinds.items → (n : ℕ) (statement : StatementTree) → statement_at program n ≡ Some statement →
    (compiled : CompiledStatement) × (compiled_at code.statements.items n ≡ Some compiled)
    × IsCompiledStatement program (slots_of program) code.operands code.ops.items compiled statement
compiled_of program code h zero statement at = absurd (cc)
compiled_of program code h (suc k) statement at =
    let low = slice_get_within program k statement at in
    let here = some_member code.statements.items k (omega (arith, h.count)) in
    (here.0, here.1, h.each k here.0 statement here.1 at)

-- what is so of no operations, and of those of what is kept, is so of those of each statement
each_ops : (P : List Op → Type 0) (program : List StatementTree) (code : Code) →
    IsCode program code.scalars.items code.arrays.items code.operands code.ops.items code.statements.items
    code.kinds.items → P [] →
    ((compiled : CompiledStatement) (statement : StatementTree) →
    IsCompiledStatement program (slots_of program) code.operands code.ops.items compiled statement →
    P (slice_range code.ops.items compiled.from compiled.to)) →
    (n : ℕ) → P (code_ops code n)
each_ops P program code h none each zero = none
each_ops P program code h none each (suc k) = cases (slice_get code.statements.items k) refl
  where
    at : (compiled : CompiledStatement) →
        slice_get code.statements.items k ≡ Some compiled →
        (statement : StatementTree) × (slice_get program k ≡ Some statement)
    at compiled e = some_member program k (omega (arith, h.count, slice_get_within code.statements.items k compiled e))

    cases : (o : Option CompiledStatement) → slice_get code.statements.items k ≡ o →
        P (ops_in code.ops.items o)
    cases None e = none
    cases (Some compiled) e =
        let there = at compiled e in each compiled there.0 (h.each k compiled there.0 e there.1)

pub is_compiled : (program : List StatementTree) (code : Code) → code_program code ≡ program →
    IsCode program code.scalars.items code.arrays.items code.operands code.ops.items code.statements.items
    code.kinds.items → IsCompiled program code
is_compiled program code are h =
    let slots : code_slots code ≡ slots_of program =
    slots_is (code_slots code) (slots_of program) h.scalars_are h.arrays_are in
    record {
      program_is = are;
      means = λ n statement at.
          let compiled = compiled_of program code h n statement at in
          subst (λ sl. Means program sl (code_ops code n) statement code.operands) (sym slots)
          (subst (λ o. Means program (slots_of program) (ops_in code.ops.items o) statement code.operands)
          (sym compiled.1) compiled.2.means);
      least = λ most all.
          h.least most (λ n compiled e.
          let reached = peak_reached (slice_range code.ops.items compiled.from compiled.to) 0 in
          let here : code_ops code (suc n) ≡ slice_range code.ops.items compiled.from compiled.to =
          ap (ops_in code.ops.items) e in
          let fits = all (suc n) reached.0 in
          omega (arith, fits, ap (λ o. count_after (take reached.0 o) 0) here, reached.1));
      enough = λ n k.
          le_trans (prefix-le (code_ops code n) k 0)
          (each_ops (λ ops. peak ops 0 ≤ code.operands) program code h (omega arith) (λ c s is. is.low) n);
      named = λ n.
          subst (λ sl. AllPass (names_existing (length program) sl) (code_ops code n)) (sym slots)
          (each_ops (AllPass (names_existing (length program) (slots_of program))) program code h
          (All-nil (λ op. names_existing (length program) (slots_of program) op ≡ true)) (λ c s is. is.named) n);
      leads = each_ops LeadsLast program code h (λ k op at leads. absurd (cc)) (λ c s is. is.leads);
      finds = each_ops FindOperands program code h (λ k op at. absurd (cc)) (λ c s is. is.finds);
      slots_are = slots;
      scalars_once =
          subst (IsDistinct same_name) (sym h.scalars_are)
          (each_once-distinct (filter is_scalar_name (names_of program)));
      arrays_once =
          subst (IsDistinct same_name) (sym h.arrays_are)
          (each_once-distinct (filter is_array_name (names_of program)));
      scalars_named = subst (AllPass is_scalar_name) (sym h.scalars_are) (kept_names is_scalar_name (names_of program));
      arrays_named = subst (AllPass is_array_name) (sym h.arrays_are) (kept_names is_array_name (names_of program));
    }

-- code by the names of its slots
pub named_code : (program : List StatementTree) (scalars scalars' arrays arrays' : List Name) (most : ℕ)
    (ops : List Op) (statements : List CompiledStatement) (kinds : List Kind) → scalars' ≡ scalars →
    arrays' ≡ arrays → IsCode program scalars arrays most ops statements kinds →
    IsCode program scalars' arrays' most ops statements kinds
named_code program scalars scalars' arrays arrays' most ops statements kinds e f h =
    subst (λ xs. IsCode program xs arrays' most ops statements kinds) (sym e)
    (subst (λ ys. IsCode program scalars ys most ops statements kinds) (sym f) h)

-- what a reader takes
pub record Taken (code : Code) (n : ℕ) (compiled : CompiledStatement) : Type 0 where
  pub at : compiled_at code.statements.items n ≡ Some compiled
  pub order : compiled.from ≤ compiled.to
  pub within : compiled.to ≤ length code.ops.items
  pub shows : Shows (statement_at (code_program code) n) compiled

taken_at : (code : Code) (k : ℕ) (compiled : CompiledStatement) →
    slice_get code.statements.items k ≡ Some compiled →
    IsCode (code_program code) code.scalars.items code.arrays.items code.operands code.ops.items code.statements.items
    code.kinds.items → Taken code (suc k) compiled
taken_at code k compiled at h =
    let there =
    some_member (code_program code) k (omega (arith, h.count, slice_get_within code.statements.items k compiled at)) in
    let is = h.each k compiled there.0 at there.1 in
    record {
      at = at;
      order = is.order;
      within = is.within;
      shows = record {
        chance = ap (option_map (λ s. s.chance)) there.1 ∙ ap (λ x. Some x) (sym is.chance);
        abstained = ap (option_map (λ s. s.abstained)) there.1 ∙ ap (λ x. Some x) (sym is.abstained);
        text = ap (option_map (λ s. s.text)) there.1 ∙ ap (λ x. Some x) (sym is.text);
      };
    }

pub is_taken : (code : Code) (n : ℕ) (compiled : CompiledStatement) → 1 ≤ n →
    n ≤ length (code_program code) → compiled ≡ get_or code.statements.items (n - 1) compiled →
    Taken code n compiled
is_taken code zero compiled first last is = absurd (omega arith)
is_taken code (suc k) compiled first last is =
    let h = code.compiled in
    let low : k < length code.statements.items = omega (arith, h.count) in
    let one : suc k - 1 ≡ k = omega arith in
    taken_at code k compiled (slice_get-get_or code.statements.items k compiled low
    ∙ ap (λ x. Some x) (sym (is ∙ ap (λ i. get_or code.statements.items i compiled) one))) h

-- a kind that a reader takes
pub kind_at : (code : Code) (n : ℕ) (kind : Kind) → 1 ≤ n → n ≤ length (code_program code) →
    kind ≡ get_or code.kinds.items (n - 1) kind →
    option_map (λ statement. kind_of statement.body) (code_statement code n) ≡ Some kind
kind_at code zero kind first last is = absurd (omega arith)
kind_at code (suc k) kind first last is =
    let program = code_program code in
    let kinds = code.kinds.items in
    let are : kinds ≡ kinds_of program = code.compiled.kinds_are in
    let low : k < length kinds =
    omega (arith, ap length are, length-map program (λ statement. kind_of statement.body)) in
    let one : suc k - 1 ≡ k = omega arith in
    sym (slice_get-map (λ statement. kind_of statement.body) program k)
    ∙ ap (λ l. slice_get l k) (sym are)
    ∙ slice_get-get_or kinds k kind low
    ∙ ap (λ x. Some x) (sym (is ∙ ap (λ i. get_or kinds i kind) one))

-- of any code
pub code_compiled : (code : Code) → IsCompiled (code_program code) code
code_compiled code = is_compiled (code_program code) code refl code.compiled
