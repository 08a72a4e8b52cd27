-- How a variable or an array is shown.
use Rattle.std.specs.Prelude.{ℕ, ◌==◌, Bool, List, [], ◌∷◌, ◌++◌, length, codes, decimal}
use Rattle.std.specs.Prelude.{if◌then◌else◌}
use Rattle.ick_syntax.specs.declared.tree.Name.{Name}
use Rattle.ick_syntax.specs.declared.tree.NameKind.{NameKind}
use Rattle.ick_syntax.specs.declared.tree.NameKind.TheVariants.{Onespot, Twospot, Tail, Hybrid}
use Rattle.ick_syntax.specs.NameKinds.{is_array}
use Rattle.ick_code.specs.meaning.State.{Array, State}
use Rattle.ick_inspect.specs.Text.{numbers_text}

abbrev pub sigil : NameKind → List ℕ
sigil Onespot = codes "."
sigil Twospot = codes ":"
sigil Tail = codes ","
sigil Hybrid = codes ";"

-- as programs write it: `.1`
unfoldable pub name_text : Name → List ℕ
name_text name = sigil name.kind ++ decimal name.number

-- dimensions, with `x` between each two
unfoldable pub dimensions_text : List ℕ → List ℕ
dimensions_text [] = codes "no dimensions"
dimensions_text (first ∷ others) = decimal first ++ numbers_text (codes "x") others

-- the elements of an array that has dimensions
unfoldable pub elements_text : (dimensions elements : List ℕ) → List ℕ
elements_text [] elements = []
elements_text (first ∷ others) elements = codes ":" ++ numbers_text (codes " ") elements

-- an array: `2x3: 1 2 3 4 5 6`, or `no dimensions`
unfoldable pub array_text : Array → List ℕ
array_text a = dimensions_text a.dimensions ++ elements_text a.dimensions a.elements

abbrev pub value_text : State → Name → List ℕ
value_text s name = if is_array name.kind then array_text (s.arrays name) else decimal (s.scalars name)

-- how many values are stashed
abbrev pub stash_depth : State → Name → ℕ
stash_depth s name =
    if is_array name.kind then length (s.stashed_arrays name) else length (s.stashed_scalars name)

-- whether a name is ignored, and how many values are stashed of it: nothing, if neither
unfoldable pub marks_text : (ignored : Bool) → (depth : ℕ) → List ℕ
marks_text ignored depth =
    if ignored then (if depth == 0 then codes " (ignored)"
    else codes " (ignored, " ++ decimal depth ++ codes " stashed)")
    else if depth == 0 then [] else codes " (" ++ decimal depth ++ codes " stashed)"

-- `.1 = 7 (ignored, 2 stashed)`
unfoldable pub variable_text : State → Name → List ℕ
variable_text s name =
    name_text name ++ codes " = " ++ value_text s name ++ marks_text (s.ignored name) (stash_depth s name)
