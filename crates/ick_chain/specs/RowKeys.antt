-- Defines how rows are found by keys.
use Rattle.std.specs.Prelude.{ℕ, ◌<◌, List, length, slice_index_or}
use Rattle.std.specs.HashMap.{HashMap}
use Rattle.ick_outcomes.specs.Keys.{key_of, Lacks}
use Rattle.ick_chain.specs.declared.row.Row.{Row}

module _ {S : Type 0} where
  -- an index is noted for the key of each row
  abbrev pub IsIndexed : HashMap ℕ ℕ S → List Row → Type 0
  IsIndexed places rows = (i : ℕ) (d : Row) → i < length rows →
      Lacks places (key_of (slice_index_or rows i d).output.items (slice_index_or rows i d).end.items) → ⊥
