-- The answer to an expression.
use Rattle.std.proofs.Common.{◌≡◌, ℕ, ◌∙◌, List, [], ◌∷◌, ap, arith, length, refl, subst, sym}
use Rattle.std.specs.Prelude.{OnOk, Result, Ok, Err, Some}
use Rattle.ick_bits.specs.declared.faults.FaultKind.{FaultKind}
use Rattle.ick_bits.specs.declared.values.Value.{Value}
use Rattle.ick_code.specs.meaning.State.{State}
use Rattle.ick_code.specs.meaning.Value.{value_of}
use Rattle.ick_inspect.specs.Text.{Adds}
use Rattle.ick_inspect.specs.declared.text.Text.{Text}
use Rattle.ick_inspect.proofs.AddLaws.{same}
use Rattle.ick_source.specs.Laws.{OneRefusal}
use Rattle.ick_source.specs.RefusalAnswers.{Refuses}
use Rattle.ick_source.specs.Refusals.{Compiles, IsRefused}
use Rattle.ick_source.specs.declared.refusals.Refusal.TheVariants.{Fault, TooLong}
use Rattle.ick_syntax.specs.BodyTree.{calculate}
use Rattle.ick_syntax.specs.StatementTree.{StatementTree}
use Rattle.ick_syntax.specs.Tree.{Tree}
use Rattle.ick_session.specs.Evaluated.{AnswersCalculation, Evaluates, IsCalculation, calculates, calculation}
use Rattle.ick_session.specs.Evaluated.{has_outcome, is_refused, no_calculation, no_expression, no_expression_text}
use Rattle.ick_session.specs.Evaluated.{outcome_text}

-- the answer to a calculation
pub calculated_is : (s : State) (program : List StatementTree) (t : Tree) (o : Result Value FaultKind) (old new : Text) →
    IsCalculation program t → o ≡ value_of t s → Adds old new (outcome_text s o) →
    (text : List ℕ) × AnswersCalculation s program text × Adds old new text
calculated_is s program t o old new is e adds =
    (outcome_text s (value_of t s), calculates t is, same (ap (outcome_text s) e) adds)

answered : (s : State) (text source : List ℕ) (program : List StatementTree) (answer : List ℕ) →
    source ≡ calculation text → Compiles source program →
    ((trees : List StatementTree) → Compiles source trees → trees ≡ program) →
    ((kind : FaultKind) (n : ℕ) → IsRefused source kind n → ⊥) → AnswersCalculation s program answer →
    Evaluates s text answer
answered s text source program answer is compiles only fine (calculates t calculation_is) = has_outcome t (record {
  program = program;
  compiles = subst (λ l. Compiles l program) is compiles;
  is = calculation_is;
})
answered s text source program answer is compiles only fine (no_calculation none) = no_expression
    (λ t e. none t (subst (λ p. IsCalculation p t)
    (only e.program (subst (λ l. Compiles l e.program) (sym is) e.compiles)) e.is))
    (λ kind n refused. fine kind n (subst (λ l. IsRefused l kind n) (sym is) refused))

-- the answer to a text whose calculation compiles
pub compiled_is : {A E : Type 0} (r : Result A E) (s : State) (text source : List ℕ) (program : List StatementTree)
    (old new : Text) → source ≡ calculation text → Compiles source program →
    ((trees : List StatementTree) → Compiles source trees → trees ≡ program) →
    ((kind : FaultKind) (n : ℕ) → IsRefused source kind n → ⊥) →
    OnOk r ((answer : List ℕ) × AnswersCalculation s program answer × Adds old new answer) →
    OnOk r ((answer : List ℕ) × Evaluates s text answer × Adds old new answer)
compiled_is (Err e) s text source program old new is compiles only fine found = tt
compiled_is (Ok x) s text source program old new is compiles only fine found =
    (found.0, answered s text source program found.0 is compiles only fine found.1, found.2)

-- the answer to a text whose calculation is refused
pub refused_is : (s : State) (text source : List ℕ) (kind shown : FaultKind) (n : ℕ) (old new : Text) →
    source ≡ calculation text → Refuses source (Fault kind n) → Adds old new (outcome_text s (Err shown)) →
    shown ≡ kind → (answer : List ℕ) × Evaluates s text answer × Adds old new answer
refused_is s text source kind shown n old new is refuses adds e = (
  outcome_text s (Err kind),
  is_refused kind n (subst (λ l. IsRefused l kind n) is refuses.refused),
  same (ap (λ k. outcome_text s (Err k)) e) adds,
)

-- the answer to a text that is too long
pub long_is : (s : State) (text source : List ℕ) (old new : Text) → source ≡ calculation text →
    Refuses source TooLong → Adds old new no_expression_text →
    (answer : List ℕ) × Evaluates s text answer × Adds old new answer
long_is s text source old new is long adds = (
  no_expression_text,
  no_expression (λ t e. absurd (omega (arith, long, ap length is, e.compiles.fits)))
      (λ kind n refused. absurd (omega (arith, long, ap length is, refused.fits))),
  adds,
)

-- statements calculate at most one tree
calculation_same : (p : List StatementTree) (t u : Tree) → IsCalculation p t → IsCalculation p u → u ≡ t
calculation_same p t u one other =
    let lists : one.statement ∷ [] ≡ other.statement ∷ [] = sym one.alone ∙ other.alone in
    let same_statement : one.statement ≡ other.statement = cc in
    let bodies : Some (calculate one.target t) ≡ Some (calculate other.target u) =
    sym one.body ∙ (ap (λ x. x.body) same_statement ∙ other.body) in cc

-- a text has one answer
pub evaluated_same : OneRefusal → (s : State) (text a b : List ℕ) → Evaluates s text a → Evaluates s text b → b ≡ a
evaluated_same one s text a b (has_outcome t e) (has_outcome u g) =
    let programs = (one (calculation text)).compiles e.program g.program e.compiles g.compiles in
    ap (λ x. outcome_text s (value_of x s))
    (calculation_same e.program t u e.is (subst (λ p. IsCalculation p u) programs g.is))
evaluated_same one s text a b (has_outcome t e) (is_refused kind n h) =
    absurd ((one (calculation text)).never_both e.program kind n e.compiles h)
evaluated_same one s text a b (has_outcome t e) (no_expression none fine) = absurd (none t e)
evaluated_same one s text a b (is_refused kind n h) (has_outcome t e) =
    absurd ((one (calculation text)).never_both e.program kind n e.compiles h)
evaluated_same one s text a b (is_refused kind n h) (is_refused other m i) =
    ap (λ k. outcome_text s (Err k)) ((one (calculation text)).refused kind other n m h i).0
evaluated_same one s text a b (is_refused kind n h) (no_expression none fine) = absurd (fine kind n h)
evaluated_same one s text a b (no_expression none fine) (has_outcome t e) = absurd (none t e)
evaluated_same one s text a b (no_expression none fine) (is_refused kind n h) = absurd (fine kind n h)
evaluated_same one s text a b (no_expression none fine) (no_expression others good) = refl
