-- What work leaves in the reader.
use Rattle.std.proofs.Common.{◌≡◌, ◌<◌, ◌+◌, ℕ, Bool, false, List, [], Option, Some, None}
use Rattle.std.proofs.Common.{arith, drop}
use Rattle.std.proofs.Common.{length, subst, sym, take}
use Rattle.std.proofs.lemmas.List.{length-take, take_all}
use Rattle.std.specs.Prelude.{unwrap_or}
use Rattle.ick_bits.specs.declared.faults.FaultKind.{FaultKind}
use Rattle.ick_source.specs.RefusalAnswers.{IsOnlyRefused}
use Rattle.ick_source.specs.Refusals.{Compiles, longest}
use Rattle.ick_syntax.specs.StatementTree.{StatementTree}
use Rattle.ick_code.specs.meaning.Move.{first_state}
use Rattle.ick_backtrack.specs.Machine.{Program}
use Rattle.ick_runs.specs.Draws.{IsDrawn, word_of}
use Rattle.ick_explorer.specs.Runs.{run}
use Rattle.ick_job.specs.JobEnd.{WhereAnswered, EndsByLine}
use Rattle.ick_job.specs.Input.{longest_input}
use Rattle.ick_cli.specs.Left.{IsLeftByProgram, IsLeftByRuns, IsLeftBySource, left_alone, left_by_drawn, left_by_given}
use Rattle.ick_cli.specs.Left.{left_by_listed, left_by_runs, left_compiled, left_refused, IsLeft, left_unplanned}
use Rattle.ick_cli.specs.Left.{left_without_file}
use Rattle.ick_cli.specs.Job.{Asked}
use Rattle.ick_cli.specs.Plan.{IsPlanned, IsUnplanned, reads_input}
use Rattle.ick_job.specs.declared.notice.Message.TheVariants as message
use Rattle.ick_job.specs.declared.job_end.JobEnd.{JobEnd}
use Rattle.ick_job.specs.declared.job_end.JobEnd.TheVariants.{Answered, InputTooLong, FileNotRead, ReadFailed}
use Rattle.ick_job.specs.declared.job_end.JobEnd.TheVariants.{WriteFailed}
use Rattle.ick_job.specs.declared.job_end.JobEnd.TheVariants.{NoMemory as WithoutMemory}
use Rattle.ick_cli.specs.declared.plan.Plan.{Plan}
use Rattle.ick_cli.specs.declared.plan.Plan.TheVariants.{Execute}
use Rattle.ick_cli.specs.declared.plan.Runs.{Runs}
use Rattle.ick_cli.specs.declared.plan.Runs.TheVariants.{Given, Drawn, Listed}
use Rattle.ick_job.proofs.Ends.{where_answered}

-- what runs leave
pub given_left : (p : Program) (input : List ℕ) (choices : Option (List Bool)) (limit : ℕ) (left : List ℕ)
    → left ≡ (run p (first_state p input) limit (unwrap_or choices [])).last.input
    → IsLeftByRuns p input (Given choices limit) left
given_left p input choices limit left is =
    subst (λ (l : List ℕ). IsLeftByRuns p input (Given choices limit) l) (sym is) (left_by_given choices limit)

pub drawn_left : (p : Program) (input : List ℕ) (seed limit : ℕ) (c : List Bool) (left : List ℕ)
    → IsDrawn p (first_state p input) limit (word_of seed) c
    → left ≡ (run p (first_state p input) limit c).last.input → IsLeftByRuns p input (Drawn seed limit) left
drawn_left p input seed limit c left draws is =
    subst (λ (l : List ℕ). IsLeftByRuns p input (Drawn seed limit) l) (sym is) (left_by_drawn seed limit c draws)

pub listed_left : (p : Program) (input : List ℕ) (from : Option (List Bool)) (count limit : ℕ) (left : List ℕ)
    → left ≡ drop (longest_input + 1) input → IsLeftByRuns p input (Listed from count limit) left
listed_left p input from count limit left is =
    subst (λ (l : List ℕ). IsLeftByRuns p input (Listed from count limit) l) (sym is) (left_by_listed from count limit)

-- what a program leaves
pub executed_left : (trees program : List StatementTree) (input : List ℕ) (runs : Runs) (left : List ℕ)
    → program ≡ trees → IsLeftByRuns program input runs left → IsLeftByRuns trees input runs left
executed_left trees program input runs left same h =
    subst (λ (p : List StatementTree). IsLeftByRuns p input runs left) same h

pub alone_left : (trees : List StatementTree) (input : List ℕ) (plan other : Plan) (job_end : JobEnd) → plan ≡ other
    → reads_input other ≡ false → WhereAnswered job_end (IsLeftByProgram trees input plan input)
alone_left trees input plan other job_end is none =
    where_answered job_end _ (subst (λ (p : Plan). IsLeftByProgram trees input p input) (sym is) (left_alone other none))

pub runs_left : (trees : List StatementTree) (input : List ℕ) (plan : Plan) (runs : Runs) (left : List ℕ)
    → plan ≡ Execute runs → IsLeftByRuns trees input runs left → IsLeftByProgram trees input plan left
runs_left trees input plan runs left is h =
    subst (λ (p : Plan). IsLeftByProgram trees input p left) (sym is) (left_by_runs runs left h)

-- what a source leaves
pub refused_left : (plan : Plan) (source input : List ℕ) (kind : FaultKind) (n : ℕ) → IsOnlyRefused source kind n
    → IsLeftBySource plan source input input
refused_left plan source input kind n is = left_refused is.no_program

pub long_left : (plan : Plan) (source input : List ℕ) → longest < length source → IsLeftBySource plan source input input
long_left plan source input long = left_refused (λ trees h. let fits = h.fits in absurd (omega arith))

-- .. a front of it that shows what is too long, and the whole
front_whole : (most : ℕ) (source : List ℕ) (trees : List StatementTree) → longest < most
    → Compiles (take most source) trees → take most source ≡ source
front_whole most source trees long h =
    let fits = h.fits in let size = length-take most source in take_all most source (omega arith)

front_compiles : (most : ℕ) (source : List ℕ) (trees : List StatementTree) → longest < most → Compiles source trees
    → Compiles (take most source) trees
front_compiles most source trees long h =
    let fits = h.fits in
    subst (λ (t : List ℕ). Compiles t trees) (sym (take_all most source (omega arith))) h

pub left_of_front : (plan : Plan) (most : ℕ) (source input left : List ℕ) → longest < most
    → IsLeftBySource plan (take most source) input left → IsLeftBySource plan source input left
left_of_front plan most source input left long (left_refused none) =
    left_refused (λ trees h. none trees (front_compiles most source trees long h))
left_of_front plan most source input left long (left_compiled trees l h is) =
    left_compiled trees l
    (subst (λ (t : List ℕ). Compiles t trees) (front_whole most source trees long h) h) is

-- what a job leaves that has no plan, and one that names no file
pub where_unplanned : (a : Asked) (named : List ℕ → List ℕ) (before : List ℕ) (job_end : JobEnd)
    → EndsByLine (IsUnplanned a.task) job_end → WhereAnswered job_end (IsLeft a named before before)
where_unplanned a named before (Answered status (message.Notice line)) h = left_unplanned line h.1
where_unplanned a named before (Answered status message.Nothing) h = absurd h
where_unplanned a named before (Answered status (message.Text text)) h = absurd h
where_unplanned a named before WithoutMemory h = tt
where_unplanned a named before InputTooLong h = tt
where_unplanned a named before FileNotRead h = tt
where_unplanned a named before ReadFailed h = tt
where_unplanned a named before WriteFailed h = tt

pub without_file : (a : Asked) (named : List ℕ → List ℕ) (before left : List ℕ) (plan : Plan) → a.file ≡ None
    → IsPlanned a.task plan → left ≡ drop (longest + 1) before → IsLeft a named before left
without_file a named before left plan none is same =
    subst (λ (l : List ℕ). IsLeft a named before l) (sym same) (left_without_file plan none is)
