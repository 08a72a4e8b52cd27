-- What the tool answers to a task, by its source and its input.
use Rattle.std.specs.Prelude.{◌<◌, ◌≤◌, ◌++◌, ℕ, Bool, List, [], Option, Some, None, codes, decimal}
use Rattle.std.specs.Prelude.{length, unwrap_or}
use Rattle.ick_bits.specs.Faults.{message_of}
use Rattle.ick_bits.specs.declared.faults.FaultKind.{FaultKind}
use Rattle.ick_source.specs.Listing.{listing}
use Rattle.ick_syntax.specs.StatementTree.{StatementTree}
use Rattle.ick_source.specs.Refusals.{Compiles, IsRefused, longest}
use Rattle.ick_code.specs.meaning.State.{State, gave_up, faulted}
use Rattle.ick_code.specs.meaning.Move.{first_state}
use Rattle.ick_backtrack.specs.Asked.{Finish, finished, at_limit}
use Rattle.ick_backtrack.specs.Machine.{Program}
use Rattle.ick_explorer.specs.Runs.{Execution, Stop, ends, wants, run, IsWhole}
use Rattle.ick_explorer.specs.Listings.{IsListing}
use Rattle.ick_explorer.specs.Lines.{shown as shown_runs}
use Rattle.ick_runs.specs.Draws.{IsDrawn, word_of}
use Rattle.ick_cli.specs.Job.{Task}
use Rattle.ick_cli.specs.Plan.{IsPlanned, IsUnplanned}
use Rattle.ick_cli.specs.Summary.{summary}
use Rattle.ick_job.specs.Notice.{notice_text}
use Rattle.ick_job.specs.declared.notice.Notice.{Notice}
use Rattle.ick_job.specs.declared.notice.Notice.TheVariants as notice
use Rattle.ick_cli.specs.declared.plan.Plan.{Plan}
use Rattle.ick_cli.specs.declared.plan.Plan.TheVariants.{Check, List as ListStatements, Execute}
use Rattle.ick_cli.specs.declared.plan.Runs.{Runs}
use Rattle.ick_cli.specs.declared.plan.Runs.TheVariants.{Given, Drawn, Listed}
use Rattle.ick_job.specs.Answer.{Answer, refusal, shown}
use Rattle.ick_job.specs.Input.{longest_input}

-- the error text and the status of a run that has stopped
abbrev pub finish_text : Finish → ℕ → List ℕ
finish_text (finished gave_up) steps = []
finish_text (finished (faulted kind statement subject)) steps = message_of kind statement subject
finish_text at_limit steps = codes "LIMIT REACHED AFTER " ++ decimal steps ++ codes " STEPS\n"

abbrev pub stop_text : Stop → ℕ → List ℕ
stop_text (ends finish) steps = finish_text finish steps
stop_text wants steps = codes "CHOICE WANTED AFTER " ++ decimal steps ++ codes " STEPS\n"

abbrev pub finish_status : Finish → ℕ
finish_status (finished gave_up) = 0
finish_status (finished (faulted kind statement subject)) = 1
finish_status at_limit = 3

abbrev pub stop_status : Stop → ℕ
stop_status (ends finish) = finish_status finish
stop_status wants = 3

abbrev pub stop_answer : List ℕ → Stop → ℕ → Answer
stop_answer output stop steps = record {
  output = output;
  errors = stop_text stop steps;
  status = stop_status stop;
}

abbrev pub run_answer : Execution → Answer
run_answer x = stop_answer x.last.output x.stop x.steps

-- a position in the listing of runs: before them all, or a whole list
abbrev pub IsPosition : Program → State → ℕ → Option (List Bool) → Type 0
IsPosition program s limit None = Unit {0}
IsPosition program s limit (Some c) = IsWhole program s limit c

-- the answer of a listing of runs from a position on, or from a list that is none
pub data IsRunsAnswer (program : Program) (s : State) (limit count : ℕ) : Option (List Bool) → Answer →
    Type 0 where
  listed : (from : Option (List Bool)) (cs : List (List Bool)) → IsPosition program s limit from
      → IsListing program s limit from cs
      → IsRunsAnswer program s limit count from (shown (shown_runs program s limit cs count))
  no_such_run : (c : List Bool) → ¬ IsWhole program s limit c
      → IsRunsAnswer program s limit count (Some c) (refusal 64 (notice_text notice.NoSuchRun))

-- the answer of a program's runs over an input: of the one with given choices, of the one whose choices a seed draws,
-- or of their listing, if the input isn't too long
pub data IsExecuted (program : Program) (input : List ℕ) : Runs → Answer → Type 0 where
  ran : (choices : Option (List Bool)) (limit : ℕ) → IsExecuted program input (Given choices limit)
      (run_answer (run program (first_state program input) limit (unwrap_or choices [])))
  drawn : (seed limit : ℕ) (c : List Bool) → IsDrawn program (first_state program input) limit (word_of seed) c
      → IsExecuted program input (Drawn seed limit) (run_answer (run program (first_state program input) limit c))
  input_too_long : (from : Option (List Bool)) (count limit : ℕ) → longest_input < length input
      → IsExecuted program input (Listed from count limit) (refusal 4 (notice_text notice.InputTooLong))
  listed_runs : (from : Option (List Bool)) (count limit : ℕ) (answer : Answer) → length input ≤ longest_input
      → IsRunsAnswer program (first_state program input) limit count from answer
      → IsExecuted program input (Listed from count limit) answer

-- the answer to a program: it is counted, listed or run
pub data IsProgramAnswer (trees : List StatementTree) (input : List ℕ) : Plan → Answer → Type 0 where
  counted : IsProgramAnswer trees input Check (shown (summary trees))
  statements_listed : IsProgramAnswer trees input ListStatements (shown (listing trees))
  executed : (runs : Runs) (answer : Answer) → IsExecuted trees input runs answer
      → IsProgramAnswer trees input (Execute runs) answer

-- the answer to a source: it is too long, or it is refused, or it compiles to a program
pub data IsSourceAnswer (plan : Plan) (source input : List ℕ) : Answer → Type 0 where
  too_long : longest < length source
      → IsSourceAnswer plan source input (refusal 2 (notice_text notice.SourceTooLong))
  refused : (kind : FaultKind) (n : ℕ) → IsRefused source kind n
      → IsSourceAnswer plan source input (refusal 2 (message_of kind n []))
  compiled : (trees : List StatementTree) (answer : Answer) → Compiles source trees
      → IsProgramAnswer trees input plan answer
      → IsSourceAnswer plan source input answer

-- the answer to a source; there is none if the file did not open or a read of it failed
pub data IsReadAnswer (plan : Plan) (input : List ℕ) : Option (List ℕ) → Answer → Type 0 where
  not_read : IsReadAnswer plan input None (refusal 4 (notice_text notice.FileNotRead))
  read : (source : List ℕ) (answer : Answer) → IsSourceAnswer plan source input answer
      → IsReadAnswer plan input (Some source) answer

-- the answer to a task: its text of choices is refused, or its plan is done
pub data IsToolAnswer (task : Task) (source : Option (List ℕ)) (input : List ℕ) : Answer → Type 0 where
  unplanned : (line : Notice) → IsUnplanned task line →
      IsToolAnswer task source input (refusal 64 (notice_text line))
  planned : (plan : Plan) (answer : Answer) → IsPlanned task plan → IsReadAnswer plan input source answer
      → IsToolAnswer task source input answer
