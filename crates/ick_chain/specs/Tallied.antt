-- Defines how weights under a limit are those of tallies, and so of lists of runs.
use Rattle.std.specs.Prelude.{◌≡◌, ℕ, Bool, true, false, List, Option, Some, None}
use Rattle.ick_code.specs.meaning.State.{State, Ending}
use Rattle.ick_outcomes.specs.Programs.{Program}
use Rattle.ick_backtrack.specs.Asked.{finished, at_limit}
use Rattle.ick_explorer.specs.Runs.{ends}
use Rattle.ick_outcomes.specs.Tallies.{Test, stop_text, tally}
use Rattle.ick_chain.specs.Limits.{ended_weight, going_weight}

-- the test of last states that a test of outcomes is
abbrev pub by_end : Test → List ℕ → Option Ending → Bool
by_end q output None = false
by_end q output (Some e) = q output (stop_text (ends (finished e)))

abbrev pub of_states : Test → State → Bool
of_states q s = by_end q s.output s.end

-- the test tells runs that have ended from runs at the limit
pub record IsOfEnded (q : Test) : Type 0 where
  pub limit : (output : List ℕ) → q output (stop_text (ends at_limit)) ≡ false

-- the test is passed at the limit alone
pub record IsOfLimit (q : Test) : Type 0 where
  pub limit : (output : List ℕ) → q output (stop_text (ends at_limit)) ≡ true
  pub over : (output : List ℕ) (e : Ending) → q output (stop_text (ends (finished e))) ≡ false

-- the weights under a limit are those of the tallies
pub record AreTallied (p : Program) (s : State) (limit : ℕ) : Type 0 where
  pub ended : (q : Test) → IsOfEnded q → (tally p s limit q).weight ≡ ended_weight p (of_states q) s limit
  pub going : (q : Test) → IsOfLimit q → (tally p s limit q).weight ≡ going_weight p s limit
