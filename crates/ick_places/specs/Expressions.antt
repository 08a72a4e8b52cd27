-- The marks of expressions, in the order of their operations: those of the operands come first.
use Rattle.std.specs.Prelude.{ℕ, zero, suc, List, [], ◌∷◌, ◌++◌, Option, Some, None, codes}
use Rattle.ick_places.specs.declared.mark.Mark.{Mark}
use Rattle.ick_places.specs.declared.mark.Part.{Part}
use Rattle.ick_places.specs.declared.mark.Part.TheVariants.{Variable, Mesh, Element, Unary, Binary, Name, Operator}
use Rattle.ick_places.specs.declared.mark.Part.TheVariants.{Group}
use Rattle.ick_places.specs.Marks.{mark, past, repeated_marks}
use Rattle.ick_source.specs.declared.lead.Delimiter.{Delimiter}
use Rattle.ick_source.specs.declared.lead.Lead.{Lead}
use Rattle.ick_source.specs.declared.lead.Lead.TheVariants as leads
use Rattle.ick_source.specs.Expression.{Level, level, unaries, leaves, groups, elements, further, operands_over}
use Rattle.ick_source.specs.Expression.{expressions_over}
use Rattle.ick_source.specs.Grammar.{number, word}
use Rattle.ick_source.specs.Position.{next_lead, past_lead}
use Rattle.ick_syntax.specs.declared.tree.NameKind.{NameKind}

-- the marks of operands and expressions whose height is at most a bound
pub record LevelMarks : Type 0 where
  pub operands : Option Delimiter → List ℕ → List Mark
  pub expressions : Option Delimiter → List ℕ → List Mark

-- a variable, or a mesh for no kind
abbrev pub leaf_part : Option NameKind → Part
leaf_part (Some kind) = Variable
leaf_part None = Mesh

-- a unary operator, if one follows
abbrev pub operator_marks : (text from : List ℕ) → Lead → List Mark
operator_marks text from (leads.Unary o) = mark text Operator from (past_lead from) ∷ []
operator_marks text from _ = []

-- what a unary operator is applied to, if there is one
abbrev pub applied_marks : (text from to : List ℕ) → Lead → List Mark
applied_marks text from to (leads.Unary o) = mark text Unary from to ∷ []
applied_marks text from to _ = []

-- a variable or a mesh, from its sigil on
unfoldable pub leaf_marks : (text : List ℕ) → Option NameKind → (from : List ℕ) → List Mark
leaf_marks text kind from =
    let inside = past_lead from in
    let to = past (leaves kind) inside in
    operator_marks text inside (next_lead inside)
    ++ mark text (leaf_part kind) from to ∷ applied_marks text from to (next_lead inside)

-- a group, from its first delimiter on
unfoldable pub group_marks : (text : List ℕ) → Level → LevelMarks → Delimiter → (from : List ℕ) → List Mark
group_marks text below inner q from =
    let inside = past_lead from in
    let to = past (groups below q) inside in
    operator_marks text inside (next_lead inside) ++ inner.expressions (Some q) (past unaries inside)
    ++ mark text Group from to ∷ applied_marks text from to (next_lead inside)

-- SUB and subscripts
unfoldable pub indexing_marks : Level → LevelMarks → Option Delimiter → List ℕ → List Mark
indexing_marks below inner m from =
    repeated_marks (below.operands m) (inner.operands m) (further m) (past (word (codes "SUB")) from)

-- an element, from its sigil on
unfoldable pub element_marks : (text : List ℕ) → Level → LevelMarks → Option Delimiter → NameKind → (from : List ℕ) →
    List Mark
element_marks text below inner m kind from =
    let behind = past number (past_lead from) in
    mark text Name from behind ∷ indexing_marks below inner m behind
    ++ mark text Element from (past (elements below m kind) (past_lead from)) ∷ []

-- an operand, by what its first character begins
abbrev pub operand_marks_by : (text : List ℕ) → Level → LevelMarks → Option Delimiter → (from : List ℕ) → Lead →
    List Mark
operand_marks_by text below inner m from (leads.Spot kind) = leaf_marks text (Some kind) from
operand_marks_by text below inner m from leads.Hash = leaf_marks text None from
operand_marks_by text below inner m from (leads.Array kind) = element_marks text below inner m kind from
operand_marks_by text below inner m from (leads.Group q) = group_marks text below inner q from
operand_marks_by text below inner m from _ = []

unfoldable pub operand_marks : (text : List ℕ) → Level → LevelMarks → Option Delimiter → List ℕ → List Mark
operand_marks text below inner m from = operand_marks_by text below inner m from (next_lead from)

-- an operator at `here` and its right side; the whole is from `from` to `to`
abbrev pub right_marks_by : (text : List ℕ) → LevelMarks → Option Delimiter → (from here to : List ℕ) → Lead → List Mark
right_marks_by text inner m from here to (leads.Binary o) =
    mark text Operator here (past_lead here) ∷ inner.expressions m (past_lead here) ++ mark text Binary from to ∷ []
right_marks_by text inner m from here to _ = []

unfoldable pub expression_marks : (text : List ℕ) → Level → (h : ℕ) → LevelMarks → Option Delimiter → List ℕ → List Mark
expression_marks text below h inner m from =
    let here = past (operands_over below m) from in
    operand_marks text below inner m from
    ++ right_marks_by text inner m from here (past (expressions_over below h m) from) (next_lead here)

-- the marks of the parts whose height is at most this number
unfoldable pub level_marks : (text : List ℕ) → ℕ → LevelMarks
level_marks text zero = record { operands = λ m from. []; expressions = λ m from. [] }
level_marks text (suc h) = record {
  operands = operand_marks text (level h) (level_marks text h);
  expressions = expression_marks text (level h) h (level_marks text h);
}
