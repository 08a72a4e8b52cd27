-- Describes the contents of a sink over memory.
use Rattle.std.specs.Prelude.{ℕ, List}

-- the bytes that the sink took, and the number of writes that failed
pub record Written : Type 0 where
  pub bytes : List ℕ
  pub failures : ℕ
