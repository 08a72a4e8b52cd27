-- How many choices a session has answered.
use Rattle.std.specs.Prelude.{◌≡◌, ℕ, length}
use Rattle.ick_step.specs.History.{choices_in}
use Rattle.ick_step.specs.Histories.{history}
use Rattle.ick_step.specs.declared.history.History.{History}

abbrev pub Counts : {M : _} {G : _} → History M G → ℕ → Type 0
Counts s n = n ≡ length (choices_in (history s).answers)
