-- The run that a job asks for, before anything is opened.
use Rattle.std.specs.Prelude.{ℕ, Bool, List, [], Option, Some, None, option_map, unwrap_or}
use Rattle.clap.specs.Words.{Text}
use Rattle.ick_runs.specs.Chosen.{Chosen, listed, seeded}
use Rattle.ick_job.specs.Choices.{AreChoices, IsUnread, most_choices}
use Rattle.ick_job.specs.declared.notice.Notice.{Notice}
use Rattle.ick_job.specs.declared.notice.Notice.TheVariants.{ChoicesAndSeed}
use Rattle.ick_session.specs.Given.{given_by}
use Rattle.ick_step_cli.specs.Job.{Wanted}
use Rattle.ick_step_cli.specs.declared.plan.Plan.{Plan}

-- the choices that a text or a seed gives to the run
pub data AreGivenBy : (choices : Option Text) → (seed : Option ℕ) → Chosen → Type 0 where
  by_text : (text : Option Text) (choices : Option (List Bool)) → AreChoices text most_choices choices
      → AreGivenBy text None (listed (unwrap_or choices []))
  by_seed : (seed : ℕ) → AreGivenBy None (Some seed) (seeded seed)

-- the line of a text and a seed that give none
pub data AreRefused : (choices : Option Text) → (seed : Option ℕ) → Notice → Type 0 where
  together : (text : Text) (seed : ℕ) → AreRefused (Some text) (Some seed) ChoicesAndSeed
  unread : (text : Option Text) (line : Notice) → IsUnread most_choices text line → AreRefused text None line

-- its choices, its limit, the name of its input, and whether it is traced
pub record Planned : Type 0 where
  pub chosen : Chosen
  pub limit : ℕ
  pub input : Option Text
  pub trace : Bool

abbrev pub planned_by : Plan → Planned
planned_by p = record {
  chosen = given_by p.given;
  limit = p.limit;
  input = option_map (λ s. s.now) p.input;
  trace = p.trace;
}

-- what a job plans with these choices
abbrev pub with_choices : Wanted → Chosen → Planned
with_choices w chosen = record { chosen = chosen; limit = w.limit; input = w.input; trace = w.trace }
