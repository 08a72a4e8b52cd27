-- The value of an expression that a person writes, in a state.
use Rattle.std.specs.Prelude.{◌≡◌, ℕ, List, [], ◌∷◌, ◌++◌, codes, decimal, Result, Ok, Err, Some}
use Rattle.ick_bits.specs.Faults.{message_of}
use Rattle.ick_bits.specs.Values.{number_of, width_of}
use Rattle.ick_bits.specs.declared.faults.FaultKind.{FaultKind}
use Rattle.ick_bits.specs.declared.values.Value.{Value}
use Rattle.ick_bits.specs.declared.values.Width.{Width}
use Rattle.ick_bits.specs.declared.values.Width.TheVariants.{Sixteen, ThirtyTwo}
use Rattle.ick_code.specs.meaning.State.{State}
use Rattle.ick_code.specs.meaning.Value.{value_of}
use Rattle.ick_source.specs.Refusals.{Compiles, IsRefused}
use Rattle.ick_syntax.specs.BodyTree.{calculate}
use Rattle.ick_syntax.specs.StatementTree.{StatementTree}
use Rattle.ick_syntax.specs.Tree.{Tree}

-- the source of a calculation of an expression
abbrev pub calculation : List ℕ → List ℕ
calculation text = codes "DO:1<-" ++ text

-- statements are one, which calculates this tree
pub record IsCalculation (program : List StatementTree) (t : Tree) : Type 0 where
  pub statement : StatementTree
  pub target : Tree
  pub alone : program ≡ statement ∷ []
  pub body : statement.body ≡ Some (calculate target t)

-- a text is an expression with this tree: its calculation compiles to one statement, which calculates the tree
pub record IsExpression (text : List ℕ) (t : Tree) : Type 0 where
  pub program : List StatementTree
  pub compiles : Compiles (calculation text) program
  pub is : IsCalculation program t

abbrev pub width_text : Width → List ℕ
width_text Sixteen = codes " (16 bits)\n"
width_text ThirtyTwo = codes " (32 bits)\n"

-- a value with its width, or the message that a fault has at the statement that is met next
abbrev pub outcome_text : State → Result Value FaultKind → List ℕ
outcome_text s (Ok v) = decimal (number_of v) ++ width_text (width_of v)
outcome_text s (Err kind) = message_of kind s.place []

abbrev pub no_expression_text : List ℕ
no_expression_text = codes "eval takes one expression, such as .1 ~ #3\n"

-- The answer to a text: what the expression has, or why its calculation is refused, or that it is no expression.
pub data Evaluates (s : State) (text : List ℕ) : List ℕ → Type 0 where
  has_outcome : (t : Tree) → IsExpression text t → Evaluates s text (outcome_text s (value_of t s))
  is_refused : (kind : FaultKind) (n : ℕ) → IsRefused (calculation text) kind n →
      Evaluates s text (outcome_text s (Err kind))
  no_expression : ((t : Tree) → IsExpression text t → ⊥) →
      ((kind : FaultKind) (n : ℕ) → IsRefused (calculation text) kind n → ⊥) →
      Evaluates s text no_expression_text

-- the answer to the statements of its calculation
pub data AnswersCalculation (s : State) (program : List StatementTree) : List ℕ → Type 0 where
  calculates : (t : Tree) → IsCalculation program t → AnswersCalculation s program (outcome_text s (value_of t s))
  no_calculation : ((t : Tree) → IsCalculation program t → ⊥) → AnswersCalculation s program no_expression_text
