-- Marks of the parts of a text: their bytes, from the characters that are left at their ends.
use Rattle.std.specs.Prelude.{ℕ, suc, nat_le, if◌then◌else◌, Bool, true, false, List, [], ◌∷◌, ◌++◌, length, Option}
use Rattle.std.specs.Prelude.{Some, None}
use Rattle.ick_places.specs.declared.mark.Mark.{Mark}
use Rattle.ick_places.specs.declared.mark.Part.{Part}
use Rattle.ick_places.specs.declared.mark.Part.TheVariants.{Variable, Mesh, Element, Unary, Binary, Listed, Gerund}
use Rattle.ick_places.specs.declared.mark.Part.TheVariants.{Action}
use Rattle.ick_places.specs.declared.mark.Part.TheVariants.{Name, Label, Operator, Group}
use Rattle.ick_source.specs.Grammar.{Grammar, Further, repeated}
use Rattle.ick_source.specs.Position.{characters, past_white}
use Rattle.ick_source.specs.Reading.{Finding, read}

-- whether an operation is made of a part of this kind
abbrev pub is_operation : Part → Bool
is_operation Variable = true
is_operation Mesh = true
is_operation Element = true
is_operation Unary = true
is_operation Binary = true
is_operation Listed = true
is_operation Gerund = true
is_operation Action = true
is_operation Name = false
is_operation Label = false
is_operation Operator = false
is_operation Group = false

-- the byte that has the first of the characters left: the first behind which fewer are left
unfoldable pub first_byte : (text from : List ℕ) → ℕ
first_byte [] from = 0
first_byte (b ∷ bs) from = if nat_le (length from) (length (characters bs)) then suc (first_byte bs from) else 0

-- the first position between bytes at which no more characters are left
unfoldable pub last_byte : (text to : List ℕ) → ℕ
last_byte [] to = 0
last_byte (b ∷ bs) to = if nat_le (length (characters (b ∷ bs))) (length to) then 0 else suc (last_byte bs to)

-- a part from the first character that isn't white
unfoldable pub mark : (text : List ℕ) → Part → (from to : List ℕ) → Mark
mark text part from to = record {
  part = part;
  from = first_byte text (past_white from);
  to = last_byte text to;
}

abbrev pub left_of : {A : Type 0} → List ℕ → Finding A → List ℕ
left_of from None = from
left_of from (Some r) = r.left

-- where a part ends that begins here
unfoldable pub past : {A : Type 0} → Grammar A → List ℕ → List ℕ
past g from = left_of from (read g from)

abbrev pub onward : List ℕ → Option (List ℕ) → List ℕ
onward from None = from
onward from (Some later) = later

abbrev pub values_of : {A : Type 0} → Finding (List A) → List A
values_of None = []
values_of (Some r) = r.value

-- the marks of parts, one for each value, that follow one another
unfoldable pub along : {A : Type 0} → Grammar A → (List ℕ → List Mark) → Further → List A → List ℕ → List Mark
along g each further [] from = []
along g each further (x ∷ xs) from =
    each from ++ along g each further xs (onward from (further from (past g from)))

-- the marks of the parts that are read from here on
unfoldable pub repeated_marks : {A : Type 0} → Grammar A → (List ℕ → List Mark) → Further → List ℕ → List Mark
repeated_marks g each further from = along g each further (values_of (read (repeated g further) from)) from
