-- The names that a statement may change, and whether it may change which statements are abstained from.
use Rattle.std.specs.Prelude.{ℕ, nat_lt, Bool, true, false, List, [], length, Option, Some, None, slice_get}
use Rattle.std.specs.Prelude.{if◌then◌else◌}
use Rattle.std.specs.List.{filter_map}
use Rattle.ick_syntax.specs.declared.tree.Name.{Name}
use Rattle.ick_code.specs.declared.code.Code.{Code}
use Rattle.ick_code.specs.declared.op.Op.{Op}
use Rattle.ick_code.specs.declared.op.Op.TheVariants as op
use Rattle.ick_code.specs.declared.op.SlotName.{SlotName}
use Rattle.ick_code.specs.declared.op.SlotName.TheVariants.{Scalar, Array}
use Rattle.ick_code.specs.Compiled.{code_ops, code_program}
use Rattle.ick_code.specs.Effects.{Slots}
use Rattle.ick_code.specs.Names.{each_once}
use Rattle.ick_code.specs.meaning.State.{same_name}

-- the name that an operation may change, if it may change one
abbrev pub slot_name : Slots → SlotName → Option Name
slot_name slots (Scalar slot) = slice_get slots.scalars slot
slot_name slots (Array slot) = slice_get slots.arrays slot

abbrev pub changed_name : Slots → Op → Option Name
changed_name slots (op.Store slot) = slice_get slots.scalars slot
changed_name slots (op.ReadTo slot) = slice_get slots.scalars slot
changed_name slots (op.StoreAt slot count) = slice_get slots.arrays slot
changed_name slots (op.Resize slot count) = slice_get slots.arrays slot
changed_name slots (op.ReadAt slot count) = slice_get slots.arrays slot
changed_name slots (op.ReadArray slot) = slice_get slots.arrays slot
changed_name slots (op.Save name) = slot_name slots name
changed_name slots (op.Restore name) = slot_name slots name
changed_name slots (op.Hide name) = slot_name slots name
changed_name slots (op.Show name) = slot_name slots name
changed_name slots _ = None

-- the names that operations may change, as often as they may change them
abbrev pub names_changed_by : Slots → List Op → List Name
names_changed_by slots ops = filter_map (changed_name slots) ops

-- whether a name is there, and is this one
abbrev pub is_name : Name → Option Name → Bool
is_name name None = false
is_name name (Some other) = same_name name other

-- each of these names once, in the order of the operations
abbrev pub targets_of : Slots → List Op → List Name
targets_of slots ops = each_once (names_changed_by slots ops)

-- whether an operation may change which statements are abstained from
abbrev pub is_of_abstaining : Op → Bool
is_of_abstaining (op.AbstainOne n) = true
is_of_abstaining (op.ReinstateOne n) = true
is_of_abstaining (op.AbstainKind gerund) = true
is_of_abstaining (op.ReinstateKind gerund) = true
is_of_abstaining _ = false

-- the operations of a statement, if there is one of this number
abbrev pub ops_at : Code → ℕ → List Op
ops_at code n =
    if nat_lt n 1 then [] else if nat_lt (length (code_program code)) n then [] else code_ops code n
