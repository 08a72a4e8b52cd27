-- An offset that is below a count.
use Rattle.std.specs.Prelude.{ℕ, nat_lt, Option, Some, None, if◌then◌else◌, option_and_then}

abbrev pub within : ℕ → Option ℕ → Option ℕ
within count o = option_and_then (λ p. if nat_lt p count then Some p else None) o
