-- States the laws of all summaries.
use Rattle.std.specs.Prelude.{◌≡◌, ℕ, ◌*◌, ◌^◌, ◌<◌, Bool, List, length}
use Rattle.ick_code.specs.meaning.State.{State}
use Rattle.ick_outcomes.specs.Programs.{Program, IsWhole, heard, hushed, run, spoken}
use Rattle.ick_outcomes.specs.Weights.{share, product}
use Rattle.ick_explorer.specs.Runs.{run as spoken_run}
use Rattle.ick_outcomes.specs.Summaries.{Row, IsSummary}

-- there is a summary, if the limit is one that `outcomes` takes, and any other summary is equal
pub record HasOneSummary (p : Program) (s : State) (limit : ℕ) : Type 0 where
  pub some : limit < 2 ^ 32 → (rs : List Row) × IsSummary p s limit rs
  pub unique : (rs xs : List Row) → IsSummary p s limit rs → IsSummary p s limit xs → rs ≡ xs

-- share / 100 ^ limit is product / 100 ^ length c
abbrev pub AreProducts : Program → State → ℕ → Type 0
AreProducts p s limit = (c : List Bool) → IsWhole p s limit c →
    share p s limit c * 100 ^ length c ≡ product p s limit c * 100 ^ limit

-- A run of a program from a state, without output if that is left out, is the explorer's run but for the output, and
-- weighs the same. So the runs of a silent program with an outcome are all runs with its end
pub record AreHeard (p : Program) (s : State) (limit : ℕ) : Type 0 where
  pub runs : (c : List Bool) → run p (hushed p.silent s) limit c ≡ heard p.silent (spoken_run p.statements s limit c)
  pub weights : (c : List Bool) → share p (hushed p.silent s) limit c ≡ share (spoken p.statements) s limit c
