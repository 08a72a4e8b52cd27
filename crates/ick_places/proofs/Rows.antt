-- Worked rows, computed from the definitions: the marks of expressions.
use Rattle.std.proofs.Common.{◌≡◌, ℕ, List, [], ◌∷◌, None, codes, refl}
use Rattle.ick_places.specs.declared.mark.Mark.{Mark}
use Rattle.ick_places.specs.declared.mark.Part.{Part}
use Rattle.ick_places.specs.declared.mark.Part.TheVariants.{Variable, Mesh, Element, Unary, Binary, Name, Operator, Group}
use Rattle.ick_places.specs.Expressions.{level_marks, operand_marks, expression_marks, leaf_marks, group_marks}
use Rattle.ick_places.specs.Expressions.{element_marks, indexing_marks}
use Rattle.ick_places.specs.Marks.{mark, first_byte, last_byte, past, along, repeated_marks}
use Rattle.ick_source.specs.Expression.{level, expressions_over, operands_over, leaves, unaries, groups, closings}
use Rattle.ick_source.specs.Expression.{elements, indexing, subscripts, further}
use Rattle.ick_source.specs.Grammar.{past_word}
use Rattle.ick_source.specs.Lead.{lead_of}
use Rattle.ick_source.specs.Position.{characters, past_white}
use Rattle.ick_source.specs.Reading.{read, turns, digits_of, past_digits, value_after}
use Rattle.ick_source.specs.Token.{is_digit}

at : Part → (from to : ℕ) → Mark
at part from to = record { part = part; from = from; to = to }

-- a group of a unary operator, and white bytes between its parts
grouped : (level_marks (codes "'V#1 ~#23'") 3).expressions None (codes "'V#1 ~#23'")
    ≡ at Operator 1 2 ∷ at Mesh 2 4 ∷ at Operator 5 6 ∷ at Mesh 6 9 ∷ at Binary 2 9 ∷ at Group 0 10 ∷ at Unary 0 10 ∷ []
unfolding at level_marks operand_marks expression_marks leaf_marks group_marks mark first_byte last_byte past
    read level expressions_over operands_over groups closings leaves unaries lead_of characters past_white is_digit
    digits_of past_digits value_after
grouped = refl

-- a group and its first part share the byte of a `!`
shared : (level_marks (codes "!1~#2'") 3).expressions None (codes "'.1~#2'")
    ≡ at Variable 0 2 ∷ at Operator 2 3 ∷ at Mesh 3 5 ∷ at Binary 0 5 ∷ at Group 0 6 ∷ []
unfolding at level_marks operand_marks expression_marks leaf_marks group_marks mark first_byte last_byte past
    read level expressions_over operands_over groups closings leaves unaries lead_of characters past_white is_digit
    digits_of past_digits value_after
shared = refl

-- the subscripts of an element come before it
subscripted : (level_marks (codes ",1SUB.2#3") 3).expressions None (codes ",1SUB.2#3")
    ≡ at Name 0 2 ∷ at Variable 5 7 ∷ at Mesh 7 9 ∷ at Element 0 9 ∷ []
unfolding at level_marks operand_marks expression_marks leaf_marks element_marks indexing_marks along repeated_marks
    mark first_byte last_byte past read turns level expressions_over operands_over elements indexing subscripts further
    leaves unaries lead_of past_word characters past_white is_digit digits_of past_digits value_after
subscripted = refl
