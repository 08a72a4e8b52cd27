-- What the status of a statement asks.
use Rattle.std.specs.Prelude.{ℕ, ◌-◌, ◌&&◌, nat_lt, Bool, if◌then◌else◌}
use Rattle.ick_code.specs.meaning.Move.{Asking, plain, choice}

-- whether a choice is asked at a status
abbrev pub is_open : ℕ → Bool
is_open status = nat_lt 0 status && nat_lt status 100

-- what is asked at a status: a choice, whose chance is 100 less the status, or nothing
abbrev pub asked_by : ℕ → Asking
asked_by status = if is_open status then choice (100 - status) else plain
