-- The names of slots.
use Rattle.std.specs.Prelude.{List, ℕ, [], Option, Some, None, slice_get}
use Rattle.ick_syntax.specs.declared.tree.Name.{Name}
use Rattle.ick_code.specs.declared.op.SlotName.{SlotName}
use Rattle.ick_code.specs.declared.op.SlotName.TheVariants.{Scalar, Array}
use Rattle.ick_code.specs.Effects.{Slots}
use Rattle.ick_inspect.specs.Names.{name_text}

-- as programs write it; nothing, if there is no such slot
unfoldable pub found_text : Option Name → List ℕ
found_text None = []
found_text (Some name) = name_text name

unfoldable pub slot_text : Slots → SlotName → List ℕ
slot_text slots (Scalar slot) = found_text (slice_get slots.scalars slot)
slot_text slots (Array slot) = found_text (slice_get slots.arrays slot)
