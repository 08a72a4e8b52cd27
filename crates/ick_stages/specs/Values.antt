-- What is known of the value of an operand: `t1, 16 bits, ones 0000000f, .1 rotated by 3 & 0000000f`.
use Rattle.std.specs.Prelude.{ℕ, ◌%◌, ◌==◌, Bool, List, [], ◌++◌, codes, decimal, bit_and, nat_lt, if◌then◌else◌}
use Rattle.std.specs.Prelude.{Option, Some, None, slice_get}
use Rattle.std.specs.List.{flat_map, range_with_len}
use Rattle.ick_lowering.specs.declared.value.{Facts.Facts, Field.Field, Operand.Operand, OperandWidth.OperandWidth}
use Rattle.ick_lowering.specs.declared.value.OperandWidth.TheVariants.{Narrow, Wide, By}
use Rattle.ick_lowering.specs.declared.value.Shape.{Shape}
use Rattle.ick_lowering.specs.declared.value.Shape.TheVariants as shape
use Rattle.ick_syntax.specs.declared.tree.UnaryOp.{UnaryOp}
use Rattle.ick_syntax.specs.declared.tree.UnaryOp.TheVariants.{And, Or, Xor}
use Rattle.ick_stages.specs.Instructions.{hex_text}
use Rattle.ick_stages.specs.Registers.{RegisterNames, register_text}
use Rattle.ick_stages.specs.Tables.{table_of}
use Rattle.ick_stages.specs.Trees.{unary_sign}

abbrev pub word_between : UnaryOp → List ℕ
word_between And = codes " and "
word_between Or = codes " or "
word_between Xor = codes " xor "

abbrev pub halved_text : Bool → List ℕ
halved_text half = if half then codes "every second bit of " else []

abbrev pub places_text : (by : ℕ) → List ℕ
places_text by = codes " rotated by " ++ decimal by

abbrev pub rotated_text : (by : ℕ) → List ℕ
rotated_text by = if by == 0 then [] else places_text by

abbrev pub masked_text : (mask : ℕ) → List ℕ
masked_text mask = if mask == 4294967295 then [] else codes " & " ++ hex_text mask

-- a field: bits of the number in a register, or every second of them, rotated, as far as a mask has ones
unfoldable pub field_text : RegisterNames → Field → List ℕ
field_text names f =
    halved_text f.half ++ register_text names f.of ++ rotated_text (f.by % 32) ++ masked_text f.mask

unfoldable pub pair_text : RegisterNames → (left : ℕ) → List ℕ → (right : ℕ) → List ℕ
pair_text names left word right = register_text names left ++ word ++ register_text names right

-- an entry of a table, behind a space
abbrev pub entry_text : Option ℕ → List ℕ
entry_text None = []
entry_text (Some n) = codes " " ++ decimal n

-- the numbers of a table at the indexes that have ones only where a mask has
abbrev pub chosen_entry : List ℕ → (mask at : ℕ) → List ℕ
chosen_entry table mask at = if bit_and at mask == at then entry_text (slice_get table at) else []

unfoldable pub chosen_text : List ℕ → (mask : ℕ) → List ℕ
chosen_text table mask = flat_map (chosen_entry table mask) (range_with_len 0 16)

unfoldable pub pick_text : RegisterNames → Field → ℕ → List ℕ
pick_text names f at =
    codes "one of" ++ chosen_text (table_of names at 16) f.mask ++ codes " by " ++ field_text names f

-- what the number is in terms of others, behind a comma
unfoldable pub shape_text : RegisterNames → Shape → List ℕ
shape_text names shape.Plain = []
shape_text names (shape.Field f) = codes ", " ++ field_text names f
shape_text names (shape.Mingle a b f g) = codes ", " ++ pair_text names a (codes " $ ") b
shape_text names (shape.UnaryOfMingle op a b f g) =
    codes ", " ++ unary_sign op ++ codes "(" ++ pair_text names a (codes " $ ") b ++ codes ")"
shape_text names (shape.Both op f g) = codes ", " ++ field_text names f ++ word_between op ++ field_text names g
shape_text names (shape.Ones r) = codes ", " ++ pair_text names r (codes " ~ ") r
shape_text names (shape.Pick f at) = codes ", " ++ pick_text names f at

unfoldable pub width_text : RegisterNames → OperandWidth → List ℕ
width_text names Narrow = codes "16 bits"
width_text names Wide = codes "32 bits"
width_text names (By r) = codes "16 or 32 bits by " ++ register_text names r

-- the ones that a number of a width may have
abbrev pub all_ones : OperandWidth → ℕ
all_ones Narrow = 65535
all_ones Wide = 4294967295
all_ones (By r) = 4294967295

abbrev pub ones_text : (ones all : ℕ) → List ℕ
ones_text ones all = if ones == all then [] else codes ", ones " ++ hex_text ones

-- the width, the ones if they are fewer than the width allows, and the shape
unfoldable pub facts_text : RegisterNames → Facts → List ℕ
facts_text names facts =
    codes ", " ++ width_text names facts.width ++ ones_text facts.ones (all_ones facts.width)
    ++ shape_text names facts.shape

-- the register of an operand, and what is known of its value. A constant is known
unfoldable pub value_text : RegisterNames → Operand → List ℕ
value_text names o =
    register_text names o.register
    ++ (if nat_lt o.register names.layout.first then facts_text names o.facts else [])
