-- Slots that names get, one after another.
use Rattle.std.specs.Prelude.{◌≡◌, false, List, [], ◌∷◌, if◌then◌else◌}
use Rattle.ick_syntax.specs.declared.tree.Name.{Name}
use Rattle.ick_syntax.specs.NameKinds.{is_array}
use Rattle.ick_code.specs.declared.table.Table.{Table}
use Rattle.ick_code.specs.Effects.{Slots}
use Rattle.ick_code.specs.Names.{with_name}

abbrev pub table_slots : Table → Slots
table_slots table = record { scalars = table.scalars.list.items; arrays = table.arrays.list.items }

abbrev pub no_slots : Slots
no_slots = record { scalars = []; arrays = [] }

-- the slots after a name came
abbrev pub with_slot : Slots → Name → Slots
with_slot slots name =
    if is_array name.kind then record slots { arrays = with_name slots.arrays name }
    else record slots { scalars = with_name slots.scalars name }

-- the slots after names came
unfoldable pub with_names : Slots → List Name → Slots
with_names slots [] = slots
with_names slots (name ∷ names) = with_names (with_slot slots name) names

-- these names get slots, unless a growth was refused
abbrev pub Adds : List Name → Table → Table → Type 0
Adds names old new =
    new.refused ≡ false → (old.refused ≡ false) × (table_slots new ≡ with_names (table_slots old) names)
