-- Each task has exactly one answer.
use Rattle.std.proofs.Common.{◌≡◌, ◌∙◌, ◌⊎◌, inl, inr, ℕ, Bool, List, [], ◌∷◌, Option, Some}
use Rattle.std.proofs.Common.{None, ap, ap₂, refl, subst, sym, arith, length}
use Rattle.std.proofs.lemmas.Bool.{cases_lt}
use Rattle.ick_bits.specs.Faults.{message_of}
use Rattle.ick_source.specs.Refusals.{longest}
use Rattle.ick_syntax.specs.StatementTree.{StatementTree}
use Rattle.ick_source.proofs.CutLemmas.{cut_exists}
use Rattle.ick_source.proofs.RefusalLemmas.{compiles_unique, refused_not, refused_unique}
use Rattle.ick_code.specs.meaning.State.{State}
use Rattle.ick_code.specs.meaning.Move.{first_state}
use Rattle.ick_backtrack.specs.Machine.{Program}
use Rattle.ick_runs.specs.Draws.{word_of}
use Rattle.ick_explorer.specs.Lines.{shown as shown_runs}
use Rattle.ick_explorer.specs.Runs.{IsEnd, IsWhole, Stop, ends, run, wants}
use Rattle.ick_runs.proofs.DrawLaws.{one_drawn, some_drawn}
use Rattle.ick_explorer.proofs.Existence.{listing_exists}
use Rattle.ick_explorer.proofs.ListingLaws.{listing_unique}
use Rattle.ick_cli.specs.Job.{Task, to_check, to_list, to_run, to_list_runs}
use Rattle.ick_job.specs.Notice.{notice_text}
use Rattle.ick_job.specs.Choices.{most_choices}
use Rattle.ick_cli.specs.Plan.{IsPlanned, IsUnplanned, check_planned, choices_unread, from_unread, list_planned}
use Rattle.ick_cli.specs.Plan.{run_planned, runs_planned, seed_planned, together}
use Rattle.ick_job.specs.Answer.{Answer, refusal, shown}
use Rattle.ick_cli.specs.Tool.{IsExecuted, IsPosition, IsProgramAnswer, IsReadAnswer, IsRunsAnswer, IsSourceAnswer}
use Rattle.ick_cli.specs.Tool.{IsToolAnswer, compiled, counted, drawn, executed, input_too_long, listed, listed_runs}
use Rattle.ick_cli.specs.Tool.{no_such_run, not_read, planned, ran, read, refused, run_answer, statements_listed}
use Rattle.ick_cli.specs.Tool.{too_long, unplanned}
use Rattle.ick_job.specs.Input.{longest_input}
use Rattle.ick_job.specs.declared.notice.Notice.{Notice}
use Rattle.ick_job.specs.declared.notice.Notice.TheVariants as notice
use Rattle.ick_cli.specs.declared.plan.Plan.{Plan}
use Rattle.ick_cli.specs.declared.plan.Plan.TheVariants.{Check, List as ListStatements, Execute}
use Rattle.ick_cli.specs.declared.plan.Runs.{Runs}
use Rattle.ick_cli.specs.declared.plan.Runs.TheVariants.{Given, Drawn, Listed}
use Rattle.ick_cli.proofs.FirstFault.{first_fault}
use Rattle.ick_cli.proofs.Lines.{answer_planned, unplanned_answer}
use Rattle.ick_job.proofs.OneReading.{choices_decided}

-- there is a plan or a line
plan_decided : (task : Task) → ((plan : Plan) × IsPlanned task plan) ⊎ ((line : Notice) × IsUnplanned task line)
plan_decided to_check = inl (Check, check_planned)
plan_decided to_list = inl (ListStatements, list_planned)
plan_decided (to_run text None limit) = elim (choices_decided text most_choices) [
  | inl found ↦ inl (Execute (Given found.0 limit), run_planned text limit found.0 found.1)
  | inr unread ↦ inr (unread.0, choices_unread text limit unread.0 unread.1)
]
plan_decided (to_run None (Some seed) limit) = inl (Execute (Drawn seed limit), seed_planned seed limit)
plan_decided (to_run (Some text) (Some seed) limit) = inr (notice.ChoicesAndSeed, together text seed limit)
plan_decided (to_list_runs text count limit) = elim (choices_decided text limit) [
  | inl found ↦ inl (Execute (Listed found.0 count limit), runs_planned text count limit found.0 found.1)
  | inr unread ↦ inr (unread.0, from_unread text count limit unread.0 unread.1)
]

-- a list is whole or not
whole_by : (p : Program) (s : State) (l : ℕ) (c : List Bool) (stop : Stop) (unused : List Bool)
    → (run p s l c).stop ≡ stop → (run p s l c).unused ≡ unused
    → IsWhole p s l c ⊎ (IsWhole p s l c → ⊥)
whole_by p s l c wants unused stops left = inr (λ w. subst IsEnd stops w.at_end)
whole_by p s l c (ends finish) [] stops left = inl (record { at_end = subst IsEnd (sym stops) tt; all_used = left })
whole_by p s l c (ends finish) (b ∷ rest) stops left =
    inr (λ w. let both : [] ≡ b ∷ rest = sym w.all_used ∙ left in cc)

whole_decided : (p : Program) (s : State) (l : ℕ) (c : List Bool) → IsWhole p s l c ⊎ (IsWhole p s l c → ⊥)
whole_decided p s l c = whole_by p s l c (run p s l c).stop (run p s l c).unused refl refl

listing_answer : (p : Program) (s : State) (l count : ℕ) (from : Option (List Bool)) → IsPosition p s l from
    → (answer : Answer) × IsRunsAnswer p s l count from answer
listing_answer p s l count from position =
    let found = listing_exists p s l from in
    (shown (shown_runs p s l found.0 count), listed from found.0 position found.1)

runs_answer : (p : Program) (s : State) (l count : ℕ) (from : Option (List Bool))
    → (answer : Answer) × IsRunsAnswer p s l count from answer
runs_answer p s l count None = listing_answer p s l count None tt
runs_answer p s l count (Some c) = elim (whole_decided p s l c) [
  | inl whole ↦ listing_answer p s l count (Some c) whole
  | inr none ↦ (refusal 64 (notice_text notice.NoSuchRun), no_such_run c none)
]

executed_answer : (p : Program) (input : List ℕ) (runs : Runs) → (answer : Answer) × IsExecuted p input runs answer
executed_answer p input (Given choices limit) = (_, ran choices limit)
executed_answer p input (Drawn seed limit) =
    let found = some_drawn p (first_state p input) limit (word_of seed) in
    (run_answer (run p (first_state p input) limit found.0), drawn seed limit found.0 found.1)
executed_answer p input (Listed from count limit) = elim (cases_lt longest_input (length input)) [
  | inl above ↦ (refusal 4 (notice_text notice.InputTooLong), input_too_long from count limit above)
  | inr fits ↦
      let found = runs_answer p (first_state p input) limit count from in
      (found.0, listed_runs from count limit found.0 (omega arith) found.1)
]

program_answer : (trees : List StatementTree) (input : List ℕ) (plan : Plan)
    → (answer : Answer) × IsProgramAnswer trees input plan answer
program_answer trees input Check = (_, counted)
program_answer trees input ListStatements = (_, statements_listed)
program_answer trees input (Execute runs) =
    let found = executed_answer trees input runs in (found.0, executed runs found.0 found.1)

source_answer : (plan : Plan) (source input : List ℕ) → (answer : Answer) × IsSourceAnswer plan source input answer
source_answer plan source input = elim (cases_lt longest (length source)) [
  | inl above ↦ (refusal 2 (notice_text notice.SourceTooLong), too_long above)
  | inr fits ↦
      let cut = cut_exists source in
      elim (first_fault cut.0) [
        | inl found ↦ (
          refusal 2 (message_of found.0 found.1 []),
          refused found.0 found.1 (record { trees = cut.0; cut = cut.1; fits = fits; first_fault = found.2 }),
        )
        | inr sound ↦
            let found = program_answer cut.0 input plan in
            (found.0, compiled cut.0 found.0 (record { cut = cut.1; fits = fits; sound = sound }) found.1)
      ]
]

read_answer : (plan : Plan) (input : List ℕ) (source : Option (List ℕ))
    → (answer : Answer) × IsReadAnswer plan input source answer
read_answer plan input None = (refusal 4 (notice_text notice.FileNotRead), not_read)
read_answer plan input (Some source) =
    let found = source_answer plan source input in (found.0, read source found.0 found.1)

pub tool_answer : (task : Task) (source : Option (List ℕ)) (input : List ℕ)
    → (answer : Answer) × IsToolAnswer task source input answer
tool_answer task source input = elim (plan_decided task) [
  | inl plan ↦ let found = read_answer plan.0 input source in (found.0, planned plan.0 found.0 plan.1 found.1)
  | inr line ↦ (refusal 64 (notice_text line.0), unplanned line.0 line.1)
]

-- .. and no other
same_runs : (p : Program) (s : State) (l count : ℕ) (from : Option (List Bool)) (a b : Answer)
    → IsRunsAnswer p s l count from a → IsRunsAnswer p s l count from b → b ≡ a
same_runs p s l count from a b (listed f cs position g) (listed e ds there h) =
    ap (λ xs. shown (shown_runs p s l xs count)) (listing_unique p s l f ds cs h g)
same_runs p s l count (Some c) a b (listed f cs position g) (no_such_run d none) = absurd (none position)
same_runs p s l count (Some c) a b (no_such_run d none) (listed f cs position h) = absurd (none position)
same_runs p s l count from a b (no_such_run c none) (no_such_run d other) = refl

same_executed : (p : Program) (input : List ℕ) (runs : Runs) (a b : Answer) → IsExecuted p input runs a
    → IsExecuted p input runs b → b ≡ a
same_executed p input runs a b (ran c l) (ran d m) = refl
same_executed p input runs a b (drawn seed limit c g) (drawn k l d h) =
    ap (λ x. run_answer (run p (first_state p input) limit x))
    (one_drawn p (first_state p input) limit (word_of seed) d c h g)
same_executed p input runs a b (input_too_long from count limit g) (input_too_long f n m h) = refl
same_executed p input runs a b (input_too_long from count limit g) (listed_runs f n m y fits h) = absurd (omega arith)
same_executed p input runs a b (listed_runs from count limit x fits g) (input_too_long f n m h) = absurd (omega arith)
same_executed p input runs a b (listed_runs from count limit x fits g) (listed_runs f n m y below h) =
    same_runs p (first_state p input) limit count from a b g h

same_program : (trees : List StatementTree) (input : List ℕ) (plan : Plan) (a b : Answer)
    → IsProgramAnswer trees input plan a → IsProgramAnswer trees input plan b → b ≡ a
same_program trees input plan a b counted counted = refl
same_program trees input plan a b statements_listed statements_listed = refl
same_program trees input plan a b (executed r x g) (executed q y h) = same_executed trees input r a b g h

same_source : (plan : Plan) (source input : List ℕ) (a b : Answer) → IsSourceAnswer plan source input a
    → IsSourceAnswer plan source input b → b ≡ a
same_source plan source input a b (too_long g) (too_long h) = refl
same_source plan source input a b (too_long g) (refused kind n h) = let fits = h.fits in absurd (omega arith)
same_source plan source input a b (too_long g) (compiled trees y h is) = let fits = h.fits in absurd (omega arith)
same_source plan source input a b (refused kind n g) (too_long h) = let fits = g.fits in absurd (omega arith)
same_source plan source input a b (refused kind n g) (refused other m h) =
    let same = refused_unique g h in ap₂ (λ k i. refusal 2 (message_of k i [])) same.0 same.1
same_source plan source input a b (refused kind n g) (compiled trees y h is) = absurd (refused_not g trees h)
same_source plan source input a b (compiled trees x g is) (too_long h) = let fits = g.fits in absurd (omega arith)
same_source plan source input a b (compiled trees x g is) (refused kind n h) = absurd (refused_not h trees g)
same_source plan source input a b (compiled trees x g is) (compiled others y h so) =
    same_program trees input plan a b is
    (subst (λ (ts : List StatementTree). IsProgramAnswer ts input plan b) (compiles_unique h g) so)

same_read : (plan : Plan) (input : List ℕ) (source : Option (List ℕ)) (a b : Answer)
    → IsReadAnswer plan input source a → IsReadAnswer plan input source b → b ≡ a
same_read plan input None a b not_read not_read = refl
same_read plan input (Some source) a b (read s x g) (read t y h) = same_source plan source input a b g h

pub same_answer : (task : Task) (source : Option (List ℕ)) (input : List ℕ) (a b : Answer)
    → IsToolAnswer task source input a → IsToolAnswer task source input b → b ≡ a
same_answer task source input a b (unplanned line g) h = unplanned_answer task source input b h line g
same_answer task source input a b (planned plan x g is) h =
    same_read plan input source a b is (answer_planned task plan source input b g h)
