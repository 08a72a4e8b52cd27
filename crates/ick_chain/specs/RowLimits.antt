-- Defines how the weight of a row is what the weights of lists of runs come to.
use Rattle.std.specs.Prelude.{◌≡◌, ℕ, ◌+◌, ◌*◌, ◌^◌, ◌≤◌, List, [], Bool}
use Rattle.std.specs.List.{Contains}
use Rattle.ick_code.specs.meaning.State.{State}
use Rattle.ick_outcomes.specs.Programs.{Program}
use Rattle.ick_backtrack.specs.Asked.{at_limit}
use Rattle.ick_explorer.specs.Lines.{end_text}
use Rattle.ick_outcomes.specs.Summaries.{AreRunsOf, Row as Listed}
use Rattle.ick_outcomes.specs.Weights.{shares}
use Rattle.ick_chain.specs.Chains.{IsExact}
use Rattle.ick_chain.specs.Limits.{Test}
use Rattle.ick_chain.specs.Rows.{Row, AreRows}

-- the row of a listing with the same outcome
abbrev pub listed : Row → Listed
listed r = record { output = r.output; end = r.end; count = 0; weight = 0; first = [] }

-- cs are the choices of all runs with the outcome of a row under a limit. They weigh no more than the row, and fall
-- short of it by at most steps / limit
pub record IsNear (p : Program) (s : State) (parts steps l : ℕ) (r : Row) (cs : List (List Bool)) : Type 0 where
  pub below : parts * shares p s l cs ≤ r.weight * 100 ^ l
  pub near : 100 * (l * (r.weight * 100 ^ l)) ≤ 100 * (l * (parts * shares p s l cs)) + steps * 100 ^ l

-- so it is for each row of an exact answer, and for each limit
abbrev pub AreNear : Program → State → Type 0
AreNear p s = (parts : ℕ) (weight : Test → ℕ) (forever steps : ℕ) (rows : List Row) →
    IsExact p s parts weight forever steps → AreRows weight rows → (r : Row) → Contains rows r →
    (r.end ≡ end_text at_limit → ⊥) → (l : ℕ) (cs : List (List Bool)) → AreRunsOf p s l (listed r) cs →
    IsNear p s parts steps l r cs
