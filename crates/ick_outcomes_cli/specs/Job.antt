-- The job that arguments ask for, as clap parses them.
use Rattle.std.specs.Prelude.{◌≡◌, ◌&&◌, ◌||◌, ℕ, Bool, List, [], Option, codes, is_some, option_map, unwrap_or}
use Rattle.clap.specs.Words.{Row, Text, fault_of, matches_of}
use Rattle.ick_backtrack.specs.Machine.{Program}
use Rattle.ick_outcomes.specs.Programs.{Program as Told}
use Rattle.ick_job.specs.Values.{flag_in, number_in, number_or, text_in}
use Rattle.ick_outcomes_cli.specs.Words.{outcomes_app}
use Rattle.ick_outcomes_cli.specs.declared.words.job.Job.{Job}
use Rattle.ick_outcomes_cli.specs.declared.words.job.Question.{Question}

-- the limit on steps where one is needed and none is given
abbrev pub usual_limit : ℕ
usual_limit = 10000

-- the bytes that the states may take without a limit if no number is given
abbrev pub usual_memory : ℕ
usual_memory = 2000000000

abbrev pub limit_or_usual : Option ℕ → ℕ
limit_or_usual limit = unwrap_or limit usual_limit

abbrev pub memory_of : Question → ℕ
memory_of q = unwrap_or q.memory usual_memory

-- the program as its outcomes are told apart: if by their ends alone, its output is left out
abbrev pub asked_of : Program → Question → Told
asked_of program q = record { statements = program; silent = q.ends }

-- what a job is, whatever memory its texts are in
pub record Wanted : Type 0 where
  pub question : Question
  pub limit : Option ℕ
  pub listing : Option Text
  pub file : Option Text

abbrev pub wanted : Job → Wanted
wanted j = record {
  question = j.question;
  limit = j.limit;
  listing = option_map (λ s. s.now) j.listing;
  file = option_map (λ s. s.now) j.file;
}

-- what the parsed arguments ask of outcomes, with the usual number if none is given
abbrev pub question_in : List Row → Question
question_in rows = record {
  most = number_or (codes "most") rows 1000000;
  memory = number_in 64 (codes "memory") rows;
  exact = flag_in (codes "exact") rows;
  total = flag_in (codes "total") rows;
  ends = flag_in (codes "ends") rows;
  states = flag_in (codes "states") rows;
}

abbrev pub wanted_in : List Row → Wanted
wanted_in rows = record {
  question = question_in rows;
  limit = number_in 32 (codes "limit") rows;
  listing = text_in (codes "asked") rows;
  file = text_in (codes "file") rows;
}

-- the arguments ask for a job: by the law of clap their parse fails only if memory runs out
abbrev pub HasJob : List Text → Type 0
HasJob words = fault_of outcomes_app words ≡ []

abbrev pub job_of : List Text → Wanted
job_of words = wanted_in (matches_of outcomes_app words)

-- it names a listing, and asks for a form of outcomes too
abbrev pub lists_too : Wanted → Bool
lists_too w = is_some w.listing && (w.question.exact || w.question.total || w.question.ends)

-- it has a limit on steps, and bounds the bytes of a search without a limit too
abbrev pub limits_too : Wanted → Bool
limits_too w = is_some w.limit && is_some w.question.memory

-- it asks for states, and for another answer too
abbrev pub states_too : Wanted → Bool
states_too w = w.question.states && (is_some w.limit || w.question.total || is_some w.listing)

-- it asks for two things that don't go together
abbrev pub asks_both : Wanted → Bool
asks_both w = states_too w || (lists_too w || limits_too w)

-- it names a file
abbrev pub has_file : Wanted → Bool
has_file w = is_some w.file
