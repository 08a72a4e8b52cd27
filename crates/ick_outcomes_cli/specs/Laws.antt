-- What holds of each job.
use Rattle.std.specs.Prelude.{◌≡◌, ◌<◌, ◌*◌, ◌^◌, ◌⊎◌, ℕ, Bool, List, Option, None, Some}
use Rattle.std.specs.List.{All, Contains}
use Rattle.ick_code.specs.meaning.State.{State}
use Rattle.ick_backtrack.specs.Machine.{Program}
use Rattle.ick_chain.specs.ExactListings.{AreLines, Line}
use Rattle.ick_chain.specs.Rows.{SameRow}
use Rattle.ick_outcomes.specs.Programs.{Program as Searched}
use Rattle.ick_outcomes.specs.Seen.{rows_of}
use Rattle.ick_outcomes.specs.Summaries.{IsSummary}
use Rattle.ick_outcomes.specs.declared.outcome.Outcome.{Outcome}
use Rattle.ick_source.specs.Refusals.{Compiles}
use Rattle.ick_job.specs.Answer.{Answer, shown}
use Rattle.ick_outcomes_cli.specs.Job.{Wanted}
use Rattle.ick_outcomes_cli.specs.Tool.{IsListed, IsOutcomesAnswer, IsTextOf}

-- both answers list the outcomes, or the states, of the program that the source compiles to
pub data BothList (w : Wanted) (input : List ℕ) : Option (List ℕ) → (a b : Answer) → Type 0 where
  both_list : (source : List ℕ) (program : Program) (text other : List ℕ) → Compiles source program
      → w.listing ≡ None
      → IsListed program input w.limit w.question text
      → IsListed program input w.limit w.question other
      → BothList w input (Some source) (shown text) (shown other)

-- A job has one answer at most, unless it lists outcomes or states. Without a limit a listing shows the choices of any
-- run of each outcome, and its lines are in the order of these choices. So such a listing isn't the only one. What such
-- listings share is `OneWeight`, and that a listing under a limit is the only one is `OneListing`.
abbrev pub OneAnswer : Type 0
OneAnswer = (w : Wanted) (input : List ℕ) (listing source : Option (List ℕ)) (a b : Answer)
    → IsOutcomesAnswer w input listing source a → IsOutcomesAnswer w input listing source b
    → (b ≡ a) ⊎ BothList w input source a b

-- the weights of outcomes have as many places as the program can keep
abbrev pub AreKept : List Outcome → Type 0
AreKept outcomes = All (λ o. o.weight.places < 2 ^ 32) outcomes

-- The outcomes under a limit have one text. The definition of a fraction also has places that no program can keep, and
-- such a fraction would have another text.
abbrev pub OneListing : Type 0
OneListing = (p : Searched) (s : State) (limit : ℕ) (exact by_ends total : Bool) (outcomes others : List Outcome)
    (text other : List ℕ)
    → IsSummary p s limit (rows_of outcomes) → IsSummary p s limit (rows_of others)
    → AreKept outcomes → AreKept others
    → IsTextOf exact by_ends total outcomes text → IsTextOf exact by_ends total others other → other ≡ text

-- Two listings without a limit give each outcome that both have the same weight, and the runs that never end too. Equal
-- weights are equal fractions, in whatever parts they are counted.
abbrev pub OneWeight : Type 0
OneWeight = (p : Searched) (s : State) (parts others never forever : ℕ) (lines more : List Line)
    → AreLines p s parts never lines → AreLines p s others forever more
    → (others * never ≡ parts * forever)
    × ((l x : Line) → Contains lines l → Contains more x → SameRow x.row l.row
    → others * l.row.weight ≡ parts * x.row.weight)
