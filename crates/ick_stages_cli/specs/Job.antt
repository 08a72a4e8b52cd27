-- The job that arguments ask for, as clap parses them.
use Rattle.std.specs.Prelude.{◌≡◌, ◌||◌, Bool, List, [], Option, codes, is_some, not, option_map}
use Rattle.clap.specs.Words.{Row, Text, fault_of, matches_of}
use Rattle.ick_job.specs.Values.{flag_in, number_in, text_in}
use Rattle.ick_stages.specs.declared.stages.Asked.{Asked}
use Rattle.ick_stages_cli.specs.Words.{stages_app}
use Rattle.ick_stages_cli.specs.declared.words.job.Job.{Job}

-- what a job is, whatever memory its texts are in
pub record Wanted : Type 0 where
  pub asked : Asked
  pub file : Option Text

abbrev pub wanted : Job → Wanted
wanted j = record { asked = j.asked; file = option_map (λ s. s.now) j.file }

-- the lines of a stage are named
abbrev pub names_some : List Row → Bool
names_some rows =
    flag_in (codes "tree") rows || flag_in (codes "operations") rows || flag_in (codes "parts") rows
    || flag_in (codes "rules") rows || flag_in (codes "instructions") rows || flag_in (codes "traces") rows

-- the lines of a stage are asked for: they are named, or none are; those of all places only if they are named
abbrev pub asked_in : Text → List Row → Bool
asked_in name rows = flag_in name rows || not (names_some rows)

abbrev pub wanted_in : List Row → Wanted
wanted_in rows = record {
  asked = record {
    tree = asked_in (codes "tree") rows;
    operations = asked_in (codes "operations") rows;
    parts = asked_in (codes "parts") rows;
    places = flag_in (codes "parts") rows;
    rules = asked_in (codes "rules") rows;
    instructions = asked_in (codes "instructions") rows;
    traces = asked_in (codes "traces") rows;
    only = number_in 32 (codes "statement") rows;
  };
  file = text_in (codes "file") rows;
}

-- the arguments ask for a job: by the law of clap their parse fails only if memory runs out
abbrev pub HasJob : List Text → Type 0
HasJob words = fault_of stages_app words ≡ []

abbrev pub job_of : List Text → Wanted
job_of words = wanted_in (matches_of stages_app words)

-- it names a file
abbrev pub has_file : Wanted → Bool
has_file w = is_some w.file
