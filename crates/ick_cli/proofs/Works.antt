-- What work over a reader and a writer leaves, from what a part of it leaves.
use Rattle.std.proofs.Common.{◌≡◌, ◌+◌, inl, ℕ, Bool, true, false, List, [], Option, Result, IfErr, arith, refl, subst}
use Rattle.std.proofs.Common.{Some, None, if◌then◌else◌, ap, sym}
use Rattle.std.proofs.lemmas.List.{append-nil}
use Rattle.std.proofs.Math.Seq.{drop-nil}
use Rattle.std.specs.Prelude.{unwrap_or}
use Rattle.ick_bits.specs.declared.faults.FaultKind.{FaultKind}
use Rattle.ick_source.specs.RefusalAnswers.{Refuses}
use Rattle.ick_source.specs.Refusals.{Compiles, IsRefused}
use Rattle.ick_syntax.specs.StatementTree.{StatementTree}
use Rattle.ick_source.specs.declared.refusals.Refusal.{Refusal}
use Rattle.ick_source.specs.declared.refusals.Refusal.TheVariants as refusal
use Rattle.ick_code.specs.meaning.Move.{first_state}
use Rattle.ick_backtrack.specs.Machine.{Program}
use Rattle.ick_runs.proofs.DrawLaws.{some_drawn}
use Rattle.ick_runs.specs.Draws.{IsDrawn, word_of}
use Rattle.ick_explorer.specs.Runs.{run}
use Rattle.ick_runs.specs.Streams.{Streams, source_failures}
use Rattle.ick_explorer.specs.Writes.{write_failures}
use Rattle.ick_explorer.specs.declared.errors.RunsError.{RunsError}
use Rattle.ick_runs.specs.declared.streamed.Streamed.{Streamed}
use Rattle.ick_job.specs.Input.{longest_input}
use Rattle.ick_job.specs.JobEnd.{Answers, LeavesWriter}
use Rattle.ick_cli.specs.Left.{IsLeftByProgram, IsLeftByRuns, IsLeftBySource, left_compiled}
use Rattle.ick_cli.specs.Plan.{reads_input}
use Rattle.ick_cli.specs.Dispatch.{AnswersSource}
use Rattle.ick_cli.specs.Stopped.{EndsAs}
use Rattle.ick_job.specs.Refusing.{EndsRefused}
use Rattle.ick_cli.specs.Summary.{summary}
use Rattle.ick_source.specs.Listing.{listing}
use Rattle.ick_job.specs.Answer.{Answer, shown}
use Rattle.ick_cli.specs.Tool.{IsExecuted, IsProgramAnswer, IsRunsAnswer, IsSourceAnswer, counted, statements_listed}
use Rattle.ick_cli.specs.Work.{Works}
use Rattle.ick_job.specs.declared.job_end.JobEnd.{JobEnd}
use Rattle.ick_job.specs.declared.job_end.JobEnd.TheVariants.{Answered, NoMemory}
use Rattle.ick_job.specs.declared.notice.Message.TheVariants as message
use Rattle.ick_job.specs.declared.notice.Notice.TheVariants as notice
use Rattle.ick_cli.specs.declared.plan.Plan.{Plan}
use Rattle.ick_cli.specs.declared.plan.Plan.TheVariants.{Check, List as ListStatements, Execute}
use Rattle.ick_cli.specs.declared.plan.Runs.{Runs}
use Rattle.ick_cli.specs.declared.plan.Runs.TheVariants.{Given, Drawn, Listed}
use Rattle.ick_cli.proofs.Answered.{answered_refusal, executed_so, long_answer, source_program}
use Rattle.ick_job.proofs.Ends.{leaves_as, leaves_by, where_answered, where_other}
use Rattle.ick_cli.proofs.Executed.{IsRunError, answers_drawn, answers_given, answers_ran, leaves_ran, left_ran}
use Rattle.ick_cli.proofs.Executed.{listed_over}
use Rattle.ick_cli.proofs.Left.{alone_left, drawn_left, executed_left, given_left, listed_left, long_left}
use Rattle.ick_cli.proofs.Left.{refused_left, runs_left}

-- other answers and bytes of the same work: each of those answers is one of these, each of these bytes one of those
pub works_so : {A B : Answer → Type 0} {L M : List ℕ → Type 0} {job_end : JobEnd} {rt : Bool} {r r' : ℕ} {rest : List ℕ}
    {wt : Bool} {w w' : ℕ} {out out' : List ℕ} → ((answer : Answer) → B answer → A answer)
    → ((left : List ℕ) → L left → M left) → Works A L job_end rt r r' rest wt w w' out out'
    → Works B M job_end rt r r' rest wt w w' out out'
works_so {job_end} {rest} answers lefts works = record {
  leaves = works.leaves;
  left = λ told. where_other job_end _ _ (lefts rest) (works.left told);
  answer = λ told told' answer is. works.answer told told' answer (answers answer is);
}

pub works_without_memory : {A : Answer → Type 0} {L : List ℕ → Type 0} (rt : Bool) (r : ℕ) (rest : List ℕ) (wt : Bool)
    (w : ℕ) (out : List ℕ) → Works A L NoMemory rt r r rest wt w w out out
works_without_memory rt r rest wt w out = record {
  leaves = record { proper = tt; opened = refl; read = omega arith; wrote = omega arith };
  left = λ told. tt;
  answer = λ told told' answer is. (tt, (0, sym (append-nil out)));
}

-- a source that is refused, and one that compiles
pub works_refused : (plan : Plan) (source input : List ℕ) (why : Refusal) (job_end : JobEnd) (rt : Bool) (r : ℕ)
    (wt : Bool) (w : ℕ) (out : List ℕ) → Refuses source why → EndsRefused why job_end
    → Works (IsSourceAnswer plan source input) (IsLeftBySource plan source input) job_end rt r r input wt w w out out
works_refused plan source input (refusal.Fault kind n) job_end rt r wt w out is ends = record {
  leaves = leaves_by 2 _ job_end r r w w (omega arith) ends refl refl;
  left = λ told. where_answered job_end _ (refused_left plan source input kind n is);
  answer = λ told told'. answered_refusal plan source input kind n job_end out is ends;
}
works_refused plan source input refusal.TooLong job_end rt r wt w out long ends =
    subst (λ (e : JobEnd). Works (IsSourceAnswer plan source input) (IsLeftBySource plan source input) e
    rt r r input wt w w out out) (sym ends)
    (record {
      leaves = record { proper = inl (omega arith); opened = refl; read = omega arith; wrote = omega arith };
      left = λ told. long_left plan source input long;
      answer = λ told told' answer h.
          subst (λ (a : Answer). Answers a (Answered 2 (message.Notice notice.SourceTooLong)) out out)
          (long_answer plan source input long answer h) ((refl, refl), sym (append-nil out));
    })
works_refused plan source input refusal.NoMemory job_end rt r wt w out is ends =
    subst (λ (e : JobEnd). Works (IsSourceAnswer plan source input) (IsLeftBySource plan source input) e
    rt r r input wt w w out out) (sym ends)
    (works_without_memory rt r input wt w out)

pub works_compiled : (plan : Plan) (source input : List ℕ) (trees : List StatementTree) {job_end : JobEnd} {rt : Bool}
    {r r' : ℕ} {rest : List ℕ} {wt : Bool} {w w' : ℕ} {out out' : List ℕ} → Compiles source trees
    → ((others : List StatementTree) → Compiles source others → others ≡ trees)
    → ((kind : FaultKind) (n : ℕ) → IsRefused source kind n → ⊥)
    → Works (IsProgramAnswer trees input plan) (IsLeftByProgram trees input plan) job_end rt r r' rest wt w w' out out'
    → Works (IsSourceAnswer plan source input) (IsLeftBySource plan source input) job_end rt r r' rest wt w w' out out'
works_compiled plan source input trees compiles only not_refused works =
    works_so (source_program plan source input trees compiles only not_refused)
    (λ left h. left_compiled trees left compiles h) works

-- a program that is counted or listed
pub check_answer : (trees : List StatementTree) (input : List ℕ) (answer : Answer)
    → IsProgramAnswer trees input Check answer → shown (summary trees) ≡ answer
check_answer trees input answer counted = refl

pub list_answer : (trees : List StatementTree) (input : List ℕ) (answer : Answer)
    → IsProgramAnswer trees input ListStatements answer → shown (listing trees) ≡ answer
list_answer trees input answer statements_listed = refl

pub works_shown : (trees : List StatementTree) (input : List ℕ) (plan other : Plan) (shows : Answer) (job_end : JobEnd)
    (rt : Bool) (r : ℕ) (wt : Bool) (w w' : ℕ) (out out' : List ℕ) → plan ≡ other → reads_input other ≡ false
    → ((answer : Answer) → IsProgramAnswer trees input other answer → shows ≡ answer)
    → LeavesWriter job_end w w' → (wt ≡ true → Answers shows job_end out out')
    → Works (IsProgramAnswer trees input plan) (IsLeftByProgram trees input plan) job_end rt r r input wt w w' out out'
works_shown trees input plan other shows job_end rt r wt w w' out out' is none one leaves sent = record {
  leaves = leaves_as job_end 0 0 0 0 w w' 0 0 r r w w' leaves refl (omega arith) (omega arith);
  left = λ told. alone_left trees input plan other job_end is none;
  answer = λ told told' answer h.
      subst (λ (a : Answer). Answers a job_end out out')
      (one answer (subst (λ (p : Plan). IsProgramAnswer trees input p answer) is h)) (sent told');
}

-- a program that is compiled and run
pub runs_read : (plan : Plan) (runs : Runs) → plan ≡ Execute runs → reads_input plan ≡ false → ⊥
runs_read plan runs is none = let reads : reads_input plan ≡ true = ap reads_input is in cc

pub works_executed : (trees program : List StatementTree) (input : List ℕ) (plan : Plan) (runs : Runs) {job_end : JobEnd}
    {rt : Bool} {r r' : ℕ} {rest : List ℕ} {wt : Bool} {w w' : ℕ} {out out' : List ℕ} → plan ≡ Execute runs
    → program ≡ trees
    → Works (IsExecuted program input runs) (IsLeftByRuns program input runs) job_end rt r r' rest wt w w' out out'
    → Works (IsProgramAnswer trees input plan) (IsLeftByProgram trees input plan) job_end rt r r' rest wt w w' out out'
works_executed trees program input plan runs is same works =
    works_so (λ answer h. executed_so trees program input runs answer same
    (subst (λ (p : Plan). IsProgramAnswer trees input p answer) is h))
    (λ left h. runs_left trees input plan runs left is (executed_left trees program input runs left same h)) works

-- runs that are given in another form
pub works_as : (program : Program) (input : List ℕ) (runs others : Runs) {job_end : JobEnd} {rt : Bool} {r r' : ℕ}
    {rest : List ℕ} {wt : Bool} {w w' : ℕ} {out out' : List ℕ} → runs ≡ others
    → Works (IsExecuted program input others) (IsLeftByRuns program input others) job_end rt r r' rest wt w w' out out'
    → Works (IsExecuted program input runs) (IsLeftByRuns program input runs) job_end rt r r' rest wt w w' out out'
works_as program input runs others is works =
    works_so (λ answer h. subst (λ (x : Runs). IsExecuted program input x answer) is h)
    (λ left h. subst (λ (x : Runs). IsLeftByRuns program input x left) (sym is) h) works

-- the listing of runs without input
pub works_listed : (p : Program) (from : Option (List Bool)) (count limit : ℕ) {job_end : JobEnd} {rt : Bool} {r : ℕ}
    {wt : Bool} {w w' : ℕ} {out out' : List ℕ} → LeavesWriter job_end w w'
    → (wt ≡ true → (answer : Answer) → IsRunsAnswer p (first_state p []) limit count from answer
    → Answers answer job_end out out')
    → Works (IsExecuted p [] (Listed from count limit)) (IsLeftByRuns p [] (Listed from count limit)) job_end
    rt r r [] wt w w' out out'
works_listed p from count limit {job_end} {r} {w} {w'} leaves answers = record {
  leaves = leaves_as job_end 0 0 0 0 w w' 0 0 r r w w' leaves refl (omega arith) (omega arith);
  left = λ told.
      where_answered job_end _ (listed_left p [] from count limit [] (sym (drop-nil (longest_input + 1))));
  answer = λ told told' answer is.
      answers told' answer (listed_over p [] [] [] from count limit answer refl refl (omega arith) is);
}

-- the run with given choices, and the one whose choices a seed draws
pub works_given : (p : Program) (input : List ℕ) (choices : Option (List Bool)) (limit : ℕ)
    (ran : Result Streamed RunsError) (job_end : JobEnd) (rt : Bool) (r r' : ℕ) (rest : List ℕ) (wt : Bool) (w w' : ℕ)
    (out out' : List ℕ)
    → (rt ≡ true → (c : List Bool) → c ≡ unwrap_or choices []
    → Streams wt (run p (first_state p input) limit c) c out out' rest ran)
    → r' ≡ r + source_failures ran → w' ≡ w + write_failures ran → IfErr ran IsRunError → EndsAs ran job_end
    → Works (IsExecuted p input (Given choices limit)) (IsLeftByRuns p input (Given choices limit)) job_end
    rt r r' rest wt w w' out out'
works_given p input choices limit ran job_end rt r r' rest wt w w' out out' streams reads writes one ends = record {
  leaves = leaves_ran ran job_end r r' w w' reads writes one ends;
  left = λ told. where_other job_end _ _ (given_left p input choices limit rest)
      (left_ran wt _ _ out out' rest ran job_end (streams told _ refl) one ends);
  answer = λ told told' answer is. answers_given p input choices limit answer job_end out out' is
      (answers_ran wt _ _ out out' rest ran job_end (streams told _ refl) one ends told');
}

pub works_drawn : (p : Program) (input : List ℕ) (seed limit : ℕ) (ran : Result Streamed RunsError) (job_end : JobEnd)
    (rt : Bool) (r r' : ℕ) (rest : List ℕ) (wt : Bool) (w w' : ℕ) (out out' : List ℕ)
    → (rt ≡ true → (c : List Bool) → IsDrawn p (first_state p input) limit (word_of seed) c
    → Streams wt (run p (first_state p input) limit c) c out out' rest ran)
    → r' ≡ r + source_failures ran → w' ≡ w + write_failures ran → IfErr ran IsRunError → EndsAs ran job_end
    → Works (IsExecuted p input (Drawn seed limit)) (IsLeftByRuns p input (Drawn seed limit)) job_end
    rt r r' rest wt w w' out out'
works_drawn p input seed limit ran job_end rt r r' rest wt w w' out out' streams reads writes one ends =
    let found = some_drawn p (first_state p input) limit (word_of seed) in
    record {
      leaves = leaves_ran ran job_end r r' w w' reads writes one ends;
      left = λ told. where_other job_end _ _ (drawn_left p input seed limit found.0 rest found.1)
          (left_ran wt _ _ out out' rest ran job_end (streams told found.0 found.1) one ends);
      answer = λ told told' answer is. answers_drawn p input seed limit answer job_end out out' is
          (λ c draws. answers_ran wt _ _ out out' rest ran job_end (streams told c draws) one ends told');
    }

-- an input that isn't empty is what its source has left
pub of_source : {R : Type 0} {plan : Plan} {source input rest : List ℕ} {job_end : JobEnd} {rt : Bool} {r r' : ℕ}
    {reader reader' : R} {wt : Bool} {w w' : ℕ} {out out' : List ℕ} {is_empty : Bool} → is_empty ≡ false
    → AnswersSource plan source input job_end rt r r' (if is_empty then [] else rest) reader reader' wt w w' out out'
    → AnswersSource plan source input job_end rt r r' rest reader reader' wt w w' out out'
of_source {plan} {source} {input} {rest} {job_end} {rt} {r} {r'} {reader} {reader'} {wt} {w} {w'} {out} {out'} given =
    subst (λ (b : Bool). AnswersSource plan source input job_end rt r r' (if b then [] else rest) reader reader'
    wt w w' out out') given

-- the source of an empty input stays as it is
pub same_source : {R : Type 0} {reader reader' : R} {is_empty : Bool} → is_empty ≡ true
    → (if is_empty then Some reader' else None) ≡ Some reader → reader' ≡ reader
same_source {reader} {reader'} given =
    subst (λ (b : Bool). (if b then Some reader' else None) ≡ Some reader → reader' ≡ reader) (sym given) (λ same. cc)
