-- Defines the keys by which rows are found.
use Rattle.std.specs.Prelude.{◌≡◌, ℕ, ◌<◌, List, length, slice_index_or, None, nat_eq}
use Rattle.std.specs.HashMap.{HashMap, get}
use Rattle.std.specs.Hash.FoldHasher.{initial, write, finish}
use Rattle.ick_outcomes.specs.declared.outcome.Outcome.{Outcome}

-- the key of an outcome: the hash of its output and, behind it, of its end
abbrev pub key_of : List ℕ → List ℕ → ℕ
key_of output end = finish (write (write initial output) end)

module _ {S : Type 0} where
  -- no index is noted for the key
  abbrev pub Lacks : HashMap ℕ ℕ S → ℕ → Type 0
  Lacks places key = get nat_eq places key ≡ None

  -- an index is noted for the key of each row
  abbrev pub IsIndexed : HashMap ℕ ℕ S → List Outcome → Type 0
  IsIndexed places rows = (i : ℕ) (d : Outcome) → i < length rows →
      Lacks places (key_of (slice_index_or rows i d).output.items (slice_index_or rows i d).end.items) → ⊥
