-- The job that arguments ask for, as clap parses them.
use Rattle.std.specs.Prelude.{◌≡◌, ℕ, Bool, List, [], Option, codes, is_some, option_map}
use Rattle.clap.specs.Words.{Row, Text, fault_of, matches_of}
use Rattle.ick_job.specs.Values.{flag_in, number_in, number_or, text_in}
use Rattle.ick_step_cli.specs.Words.{step_app}
use Rattle.ick_step_cli.specs.declared.words.job.Job.{Job}

-- what a job is, whatever memory its texts are in
pub record Wanted : Type 0 where
  pub choices : Option Text
  pub seed : Option ℕ
  pub limit : ℕ
  pub input : Option Text
  pub trace : Bool
  pub file : Option Text

abbrev pub wanted : Job → Wanted
wanted j = record {
  choices = option_map (λ s. s.now) j.choices;
  seed = j.seed;
  limit = j.limit;
  input = option_map (λ s. s.now) j.input;
  trace = j.trace;
  file = option_map (λ s. s.now) j.file;
}

-- what the parsed arguments ask for, with the usual limit if none is given
abbrev pub wanted_in : List Row → Wanted
wanted_in rows = record {
  choices = text_in (codes "choices") rows;
  seed = number_in 64 (codes "seed") rows;
  limit = number_or (codes "limit") rows 1000000;
  input = text_in (codes "input") rows;
  trace = flag_in (codes "trace") rows;
  file = text_in (codes "file") rows;
}

-- the arguments ask for a job: by the law of clap their parse fails only if memory runs out
abbrev pub HasJob : List Text → Type 0
HasJob words = fault_of step_app words ≡ []

abbrev pub job_of : List Text → Wanted
job_of words = wanted_in (matches_of step_app words)

-- it names a file
abbrev pub has_file : Wanted → Bool
has_file w = is_some w.file
