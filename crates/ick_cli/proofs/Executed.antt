-- The answers of runs that were made.
use Rattle.std.proofs.Common.{◌≡◌, ◌∙◌, ◌+◌, ◌≤◌, ◌++◌, ℕ, Bool, true, List, [], Option, ap, arith}
use Rattle.std.proofs.Common.{◌⊎◌, inr, length, refl, subst, sym, take, Result, Ok, Err, IfErr}
use Rattle.std.proofs.Math.Seq.{take-length}
use Rattle.std.proofs.lemmas.List.{append-nil}
use Rattle.std.specs.Prelude.{unwrap_or}
use Rattle.ick_code.specs.meaning.State.{gave_up, faulted}
use Rattle.ick_code.specs.meaning.Move.{first_state}
use Rattle.ick_backtrack.specs.Asked.{finished, at_limit}
use Rattle.ick_backtrack.specs.Machine.{Program}
use Rattle.ick_runs.specs.Draws.{IsDrawn, word_of}
use Rattle.ick_explorer.specs.Runs.{Execution, Stop, ends, run, wants}
use Rattle.ick_machine.specs.declared.asking.EndKind.{EndKind}
use Rattle.ick_machine.specs.declared.asking.EndKind.TheVariants.{GiveUp, Fault, Limit, Wants}
use Rattle.ick_runs.specs.Streams.{HasStreamed, Streams, source_failures, stop_kind, stop_message}
use Rattle.ick_explorer.specs.Writes.{write_failures}
use Rattle.ick_explorer.specs.declared.errors.RunsError.{RunsError}
use Rattle.ick_explorer.specs.declared.errors.RunsError.TheVariants.{NoMemory as NoMemory_error, NoSuchRun, WorkFull}
use Rattle.ick_explorer.specs.declared.errors.RunsError.TheVariants.{Failed, BadCursor, Read, Write}
use Rattle.ick_runs.specs.declared.streamed.Streamed.{Streamed}
use Rattle.ick_job.specs.JobEnd.{Answers, Comes, EndsBy, LeavesStreams, WhereAnswered, refused_job_end}
use Rattle.ick_job.specs.Input.{EndsUnread, longest_input}
use Rattle.ick_cli.specs.Stopped.{EndsAs, kind_status, kind_text}
use Rattle.ick_job.specs.Answer.{Answer}
use Rattle.ick_cli.specs.Tool.{IsExecuted, IsRunsAnswer, run_answer, stop_status, stop_text, drawn, input_too_long}
use Rattle.ick_cli.specs.Tool.{listed_runs, ran}
use Rattle.ick_job.specs.declared.job_end.JobEnd.{JobEnd}
use Rattle.ick_job.specs.declared.job_end.JobEnd.TheVariants.{Answered, NoMemory, InputTooLong, FileNotRead, ReadFailed}
use Rattle.ick_job.specs.declared.job_end.JobEnd.TheVariants.{WriteFailed}
use Rattle.ick_cli.specs.declared.plan.Runs.TheVariants.{Given, Drawn, Listed}
use Rattle.ick_job.proofs.Ends.{leaves_by, where_answered, where_refused}
use Rattle.ick_job.proofs.Errors.{one_of_three}

-- the status and the error text of a run, by how it stopped
status_of_kind : (stop : Stop) → kind_status (stop_kind stop) ≡ stop_status stop
status_of_kind (ends (finished gave_up)) = refl
status_of_kind (ends (finished (faulted kind statement subject))) = refl
status_of_kind (ends at_limit) = refl
status_of_kind wants = refl

text_of_kind : (stop : Stop) (steps : ℕ) →
    kind_text (stop_kind stop) (stop_message stop) steps ≡ stop_text stop steps
text_of_kind (ends (finished gave_up)) steps = refl
text_of_kind (ends (finished (faulted kind statement subject))) steps = refl
text_of_kind (ends at_limit) steps = refl
text_of_kind wants steps = refl

-- the job's end of a run whose output was written has the run's answer
pub answers_streamed : (told : Bool) (x : Execution) (c : List Bool) (before after left : List ℕ) (s : Streamed)
    (job_end : JobEnd)
    → told ≡ true → HasStreamed told x c before after left s
    → EndsBy (kind_status s.end) (kind_text s.end s.message.items s.steps) job_end
    → Answers (run_answer x) job_end before after
answers_streamed told x c before after left s (Answered status message) is_told has h =
    let text = ap (λ k. kind_text k s.message.items s.steps) has.end
    ∙ (ap (λ m. kind_text (stop_kind x.stop) m s.steps) has.message
    ∙ (ap (λ n. kind_text (stop_kind x.stop) (stop_message x.stop) n) has.steps ∙ text_of_kind x.stop x.steps)) in
    ((h.0 ∙ (ap kind_status has.end ∙ status_of_kind x.stop), h.1 ∙ text), has.output is_told)
answers_streamed told x c before after left s NoMemory is_told has h =
    (tt, (length x.last.output, has.output is_told ∙ ap (λ t. before ++ t) (sym (take-length x.last.output))))
answers_streamed told x c before after left s InputTooLong is_told has h = absurd h
answers_streamed told x c before after left s FileNotRead is_told has h = absurd h
answers_streamed told x c before after left s ReadFailed is_told has h = absurd h
answers_streamed told x c before after left s WriteFailed is_told has h = absurd h

-- a run that was refused has its answer cut
pub answers_refused : (answer : Answer) (e : RunsError) (job_end : JobEnd) (before after : List ℕ)
    → job_end ≡ refused_job_end e → (e ≡ NoMemory_error) ⊎ ((e ≡ Read) ⊎ (e ≡ Write))
    → (n : ℕ) × (after ≡ before ++ take n answer.output) → Answers answer job_end before after
answers_refused answer e job_end before after so one cut =
    subst (λ (x : JobEnd). Answers answer x before after) (sym so)
    (one_of_three (λ (x : RunsError). Answers answer (refused_job_end x) before after) NoMemory_error Read Write e
    (tt, cut) (tt, cut) (tt, cut) one)

-- a run that was answered or refused
abbrev pub IsRunError : RunsError → Type 0
IsRunError e = (e ≡ NoMemory_error) ⊎ ((e ≡ Read) ⊎ (e ≡ Write))

pub answers_ran : (told : Bool) (x : Execution) (c : List Bool) (before after left : List ℕ)
    (r : Result Streamed RunsError) (job_end : JobEnd)
    → Streams told x c before after left r → IfErr r IsRunError → EndsAs r job_end → told ≡ true
    → Answers (run_answer x) job_end before after
answers_ran told x c before after left (Ok s) job_end has one ended is_told =
    answers_streamed told x c before after left s job_end is_told has ended
answers_ran told x c before after left (Err e) job_end cut one ended is_told =
    answers_refused (run_answer x) e job_end before after ended one (cut.0, cut.1 is_told)

pub left_ran : (told : Bool) (x : Execution) (c : List Bool) (before after left : List ℕ)
    (r : Result Streamed RunsError) (job_end : JobEnd)
    → Streams told x c before after left r → IfErr r IsRunError → EndsAs r job_end
    → WhereAnswered job_end (left ≡ x.last.input)
left_ran told x c before after left (Ok s) job_end has one ended = where_answered job_end (left ≡ x.last.input) has.input
left_ran told x c before after left (Err e) job_end cut one ended = where_refused e job_end _ ended one

small_kind : (kind : EndKind) → kind_status kind ≤ 3
small_kind GiveUp = omega arith
small_kind (Fault kind statement) = omega arith
small_kind Limit = omega arith
small_kind Wants = omega arith

refused_leaves : (e : RunsError) (reads reads' writes writes' : ℕ)
    → reads' ≡ reads + source_failures {T = Streamed} (Err e) → writes' ≡ writes + write_failures {T = Streamed} (Err e)
    → IsRunError e → LeavesStreams (refused_job_end e) reads reads' writes writes'
refused_leaves NoMemory_error reads reads' writes writes' r w one =
    record { proper = tt; opened = refl; read = r; wrote = w }
refused_leaves Read reads reads' writes writes' r w one = record { proper = tt; opened = refl; read = r; wrote = w }
refused_leaves Write reads reads' writes writes' r w one = record { proper = tt; opened = refl; read = r; wrote = w }
refused_leaves WorkFull reads reads' writes writes' r w one =
    record { proper = tt; opened = refl; read = r; wrote = w }
refused_leaves Failed reads reads' writes writes' r w one = record { proper = tt; opened = refl; read = r; wrote = w }
refused_leaves NoSuchRun reads reads' writes writes' r w one =
    record { proper = inr refl; opened = refl; read = r; wrote = w }
refused_leaves BadCursor reads reads' writes writes' r w one =
    record { proper = inr refl; opened = refl; read = r; wrote = w }

pub leaves_ran : (r : Result Streamed RunsError) (job_end : JobEnd) (reads reads' writes writes' : ℕ)
    → reads' ≡ reads + source_failures r → writes' ≡ writes + write_failures r
    → IfErr r IsRunError → EndsAs r job_end → LeavesStreams job_end reads reads' writes writes'
leaves_ran (Ok s) job_end reads reads' writes writes' r w one ended =
    leaves_by (kind_status s.end) _ job_end reads reads' writes writes' (small_kind s.end) ended (omega arith)
    (omega arith)
leaves_ran (Err e) job_end reads reads' writes writes' r w one ended =
    subst (λ (x : JobEnd). LeavesStreams x reads reads' writes writes') (sym ended)
    (refused_leaves e reads reads' writes writes' r w one)

-- an error of such a run may come
pub run_comes : (r : Result Streamed RunsError) → IfErr r IsRunError → IfErr r Comes
run_comes (Ok s) one = tt
run_comes (Err e) one = one_of_three Comes NoMemory_error Read Write e tt tt tt one

-- the answer of runs, by what they are
pub answers_given : (p : Program) (input : List ℕ) (choices : Option (List Bool)) (limit : ℕ) (answer : Answer)
    (job_end : JobEnd) (before after : List ℕ)
    → IsExecuted p input (Given choices limit) answer
    → Answers (run_answer (run p (first_state p input) limit (unwrap_or choices []))) job_end before after
    → Answers answer job_end before after
answers_given p input choices limit answer job_end before after (ran c l) h = h

pub answers_drawn : (p : Program) (input : List ℕ) (seed limit : ℕ) (answer : Answer) (job_end : JobEnd)
    (before after : List ℕ)
    → IsExecuted p input (Drawn seed limit) answer
    → ((c : List Bool) → IsDrawn p (first_state p input) limit (word_of seed) c
    → Answers (run_answer (run p (first_state p input) limit c)) job_end before after)
    → Answers answer job_end before after
answers_drawn p input seed limit answer job_end before after (drawn k l c is) h = h c is

-- .. of a listing whose input was not read, and of one whose input was
pub answered_unread : (p : Program) (input : List ℕ) (from : Option (List Bool)) (count limit : ℕ) (job_end : JobEnd)
    (before : List ℕ)
    → EndsUnread input job_end → (answer : Answer) → IsExecuted p input (Listed from count limit) answer
    → Answers answer job_end before before
answered_unread p input from count limit InputTooLong before above answer (input_too_long f n l h) =
    ((refl, refl), sym (append-nil before))
answered_unread p input from count limit InputTooLong before above answer (listed_runs f n l a fits h) =
    absurd (omega arith)
answered_unread p input from count limit NoMemory before h answer is = (tt, (0, sym (append-nil before)))
answered_unread p input from count limit ReadFailed before h answer is = (tt, (0, sym (append-nil before)))
answered_unread p input from count limit (Answered status message) before h answer is = absurd h
answered_unread p input from count limit FileNotRead before h answer is = absurd h
answered_unread p input from count limit WriteFailed before h answer is = absurd h

listed_answer : (p : Program) (input : List ℕ) (from : Option (List Bool)) (count limit : ℕ) (answer : Answer)
    → length input ≤ longest_input
    → IsExecuted p input (Listed from count limit) answer →
    IsRunsAnswer p (first_state p input) limit count from answer
listed_answer p input from count limit answer fits (input_too_long f n l h) = absurd (omega arith)
listed_answer p input from count limit answer fits (listed_runs f n l a below h) = h

pub listed_over : (p : Program) (left input held : List ℕ) (from : Option (List Bool)) (count limit : ℕ)
    (answer : Answer) → held ≡ input → input ≡ left
    → length input ≤ longest_input → IsExecuted p left (Listed from count limit) answer
    → IsRunsAnswer p (first_state p held) limit count from answer
listed_over p left input held from count limit answer same whole fits is =
    subst (λ (t : List ℕ). IsRunsAnswer p (first_state p t) limit count from answer) (sym (same ∙ whole))
    (listed_answer p left from count limit answer (subst (λ (t : List ℕ). length t ≤ longest_input) whole fits) is)
