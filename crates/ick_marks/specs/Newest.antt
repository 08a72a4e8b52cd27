-- The newest entry of a trail.
use Rattle.std.specs.Prelude.{ℕ, List, ◌∷◌, Option, Some, None}
use Rattle.ick_runtime.specs.declared.change.Entry.{Entry}
use Rattle.ick_runtime.specs.declared.change.Entry.TheVariants.{Register}

-- the register that the first of these entries names, if it is an entry of a register
abbrev pub register_first : List Entry → Option ℕ
register_first (Register at old ∷ older) = Some at
register_first entries = None
