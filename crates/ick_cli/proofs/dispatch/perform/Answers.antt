use Rattle.std.proofs.Common.{◌≡◌, ◌+◌, ◌∙◌, List, [], ℕ, ap, arith, refl, rules, subst, sym}
use Rattle.ick_source.specs.Refusals.{longest}
use Rattle.ick_cli.specs.{Dispatch.Performs, Job.asked}
use Rattle.ick_job.specs.{Serve.counts, declared.job_end.JobEnd.JobEnd}
use Rattle.ick_cli.specs.Left.{IsLeft, IsLeftBySource, left_with_file}
use Rattle.ick_cli.specs.Plan.{IsUnplanned}
use Rattle.ick_cli.specs.Tool.{IsSourceAnswer}
use Rattle.ick_cli.proofs.Answered.{answer_of_front, answers_unopened, file_named, file_unnamed, read_source_of}
use Rattle.ick_cli.proofs.Answered.{source_read}
use Rattle.ick_job.proofs.Ends.{answers_cut, leaves_as, where_answered, where_cut, where_other, where_unopened}
use Rattle.ick_cli.proofs.Left.{left_of_front, where_unplanned, without_file}
use Rattle.ick_cli.proofs.Lines.{answer_planned, answered_unplanned, refused_by_line}
use Rattle.ick_job.proofs.Lines.{leaves_by_line}
use Rattle.ick_job.proofs.Texts.{given_none, given_some, no_file, some_file}
use Rattle.ick_cli.proofs.Planned.{input_of_plan, planned_not_unplanned}
use Rattle.ick_cli.proofs.Works.{of_source, same_source}
use Rattle.ick_cli.proofs.dispatch.perform.Given.{Over}
use Rattle.ick_cli.proofs.dispatch.perform.Goals.{Start}
use Rattle.ick_cli.proofs.dispatch.perform.Goals as goal

-- without a plan
pub returns-in-Err : goal.returns-in-Err
returns-in-Err g c =
    let job = asked c.args.job.now in record {
      leaves = leaves_by_line (IsUnplanned job.task) c.in-Err.job_end _ _ _ c.in-Err.ensures.err;
      reader_kept = λ some none. refl;
      files_kept = λ none. refl;
      unplanned = λ line h.
          (refl, refl, refl, refused_by_line _ _ line c.in-Err.ensures.err c.in-Err.ensures.memory h);
      source_first = λ none more. absurd (omega arith);
      left = λ files_told reader_told.
          where_unplanned job (g.F.Files.named c.args.files.now) _ c.in-Err.job_end c.in-Err.ensures.err;
      answer = λ files_told reader_told writer_told answer is.
          answered_unplanned job.task _ _ c.in-Err.job_end _ c.in-Err.ensures.err answer is;
    }

-- what a job leaves in its devices, from those that its call was given
abbrev Left : (g : Over) → Start g → g.row.F.Denot → g.row.R.Denot → g.row.W.Denot → JobEnd → Type 0
Left g c files reader writer job_end = Performs (asked c.args.job.now)
    (counts (g.F.ByteSource.failed c.args.files.now) (g.R.ByteSource.failed c.args.reader.now)
    (g.W.ByteSink.failed c.args.writer.now))
    (counts (g.F.ByteSource.failed files) (g.R.ByteSource.failed reader) (g.W.ByteSink.failed writer))
    g.F.ByteSource.told (g.F.Files.named c.args.files.now) c.args.files.now files
    g.R.ByteSource.told (g.R.ByteSource.left c.args.reader.now) (g.R.ByteSource.left reader) c.args.reader.now reader
    g.W.ByteSink.told (g.W.ByteSink.written c.args.writer.now) (g.W.ByteSink.written writer) c.args.writer.now writer
    job_end

to : {R : Type 0} (P : R → Type 0) {x y : R} → P x → x ≡ y → P y
to P p same = subst P same p

-- with a file
pub returns-in-Ok-read_file : goal.returns-in-Ok-read_file
returns-in-Ok-read_file g c =
    let stage = (goal.at.returns-in-Ok-read_file g c).Start in
    let job = asked c.args.job.now in
    let plan = c.in-Ok.plan in
    let named = g.F.Files.named c.args.files.now in
    let before = g.R.ByteSource.left c.args.reader.now in
    let input = c.answer_source.new.input in
    let after = g.R.ByteSource.left input.source.now in
    let whole = named c.in-Some.name.now in
    let answers = of_source (ap (λ held. held.1) c.answer_source.ensures.held) c.answer_source.ensures.answers in
    to (λ reader. Left g stage c.read_file.new.files reader c.answer_source.new.writer c.answer_source.result)
    (record {
      leaves = leaves_as _ 0 0 _ _ _ _ _ _ _ _ _ _ answers.works.leaves
          (omega (arith, c.in-Ok-read_file.ensures.count)) (omega arith) (omega arith);
      reader_kept = λ some none. answers.reader_kept (input_of_plan job.task plan c.in-Ok.ensures.ok ∙ none);
      files_kept = λ none. absurd (no_file _ _ (given_some _ _ _ c.in-Some.is) none);
      unplanned = λ line h. absurd (planned_not_unplanned _ plan line c.in-Ok.ensures.ok h);
      source_first = λ none more. absurd (no_file _ _ (given_some _ _ _ c.in-Some.is) none);
      left = λ files_told reader_told.
          where_other c.answer_source.result (IsLeftBySource plan c.as_slice.result.now before after)
          (IsLeft job named before after)
          (λ h. left_with_file c.in-Some.name.now plan after (given_some _ _ _ c.in-Some.is) c.in-Ok.ensures.ok
          (left_of_front plan (longest + 1) whole before after (omega arith)
          (subst (λ (source : List ℕ). IsLeftBySource plan source before after)
          (c.as_slice.ensures.value ∙ c.in-Ok-read_file.ensures.front files_told) h)))
          (answers.works.left reader_told);
      answer = λ files_told reader_told writer_told answer is.
          answers.works.answer reader_told writer_told answer
          (subst (λ (source : List ℕ). IsSourceAnswer plan source before answer)
          (sym (c.as_slice.ensures.value ∙ c.in-Ok-read_file.ensures.front files_told))
          (answer_of_front plan (longest + 1) whole before (omega arith) answer
          (read_source_of plan whole before _ _ c.in-Ok-read_file.ensures.count answer
          (answer_planned job.task plan _ _ answer c.in-Ok.ensures.ok
          (file_named job.task _ c.in-Some.name.now named _ _ before answer (given_some _ _ _ c.in-Some.is) is)))));
    }) (search rules)

pub returns-in-Some : goal.returns-in-Some
returns-in-Some g c =
    let job = asked c.args.job.now in
    let plan = c.in-Ok.plan in
    let named = g.F.Files.named c.args.files.now in
    let input = g.R.ByteSource.left c.args.reader.now in record {
      leaves = leaves_as _ _ _ 0 0 0 0 _ _ _ _ _ _ c.in-Err-read_file.ensures.leaves
          (omega arith) (omega arith) (omega arith);
      reader_kept = λ some none. refl;
      files_kept = λ none. absurd (no_file _ _ (given_some _ _ _ c.in-Some.is) none);
      unplanned = λ line h. absurd (planned_not_unplanned _ plan line c.in-Ok.ensures.ok h);
      source_first = λ none more. refl;
      left = λ files_told reader_told.
          where_unopened c.in-Err-read_file.job_end _ c.in-Err-read_file.ensures.unopened;
      answer = λ files_told reader_told writer_told answer is.
          answers_unopened plan (named c.in-Some.name.now) input _ _ c.in-Err-read_file.job_end _
          c.in-Err-read_file.ensures.unopened c.in-Err-read_file.ensures.leaves.opened answer
          (answer_planned job.task plan _ _ answer c.in-Ok.ensures.ok
          (file_named job.task _ c.in-Some.name.now named _ _ input answer (given_some _ _ _ c.in-Some.is) is));
    }

-- without a file
pub returns-in-Ok-read_front : goal.returns-in-Ok-read_front
returns-in-Ok-read_front g c =
    let stage = (goal.at.returns-in-Ok-read_front g c).Start in
    let job = asked c.args.job.now in
    let plan = c.in-Ok.plan in
    let named = g.F.Files.named c.args.files.now in
    let before = g.R.ByteSource.left c.args.reader.now in
    let call = c.answer_source-in-Ok-read_front in
    let read = c.in-Ok-read_front.ensures in
    let unread = same_source (ap (λ held. held.1) call.ensures.held) (ap (λ held. held.2) call.ensures.held) in
    to (λ reader. Left g stage c.args.files.now reader call.new.writer call.result)
    (record {
      leaves = leaves_as _ 0 0 _ _ _ _ _ _ _ _ _ _ call.ensures.answers.works.leaves
          (omega arith) (omega (arith, read.count)) (omega arith);
      reader_kept = λ some none. absurd (some_file _ (given_none _ _ c.in-None.is) some);
      files_kept = λ none. refl;
      unplanned = λ line h. absurd (planned_not_unplanned _ plan line c.in-Ok.ensures.ok h);
      source_first = λ none more. absurd (omega (arith, read.count, ap g.R.ByteSource.failed unread));
      left = λ files_told reader_told.
          where_answered _ _ (without_file job named before _ plan (given_none _ _ c.in-None.is) c.in-Ok.ensures.ok
          (ap g.R.ByteSource.left unread ∙ read.rest reader_told));
      answer = λ files_told reader_told writer_told answer is.
          call.ensures.answers.works.answer reader_told writer_told answer
          (subst (λ (source : List ℕ). IsSourceAnswer plan source [] answer)
          (sym (c.as_slice-in-Ok-read_front.ensures.value ∙ read.front reader_told))
          (answer_of_front plan (longest + 1) before [] (omega arith) answer
          (source_read plan [] before answer
          (answer_planned job.task plan _ _ answer c.in-Ok.ensures.ok
          (file_unnamed job.task _ named _ _ before answer (given_none _ _ c.in-None.is) is)))));
    }) (search rules)

pub returns : goal.returns
returns g c = record {
  leaves = leaves_as _ 0 0 _ _ 0 0 _ _ _ _ _ _ c.in-Err-read_front.ensures.leaves
      (omega arith) (omega arith) (omega arith);
  reader_kept = λ some none. absurd (some_file _ (given_none _ _ c.in-None.is) some);
  files_kept = λ none. refl;
  unplanned = λ line h. absurd (planned_not_unplanned _ c.in-Ok.plan line c.in-Ok.ensures.ok h);
  source_first = λ none more. refl;
  left = λ files_told reader_told. where_cut c.in-Err-read_front.job_end _ c.in-Err-read_front.ensures.cut;
  answer = λ files_told reader_told writer_told answer is.
      answers_cut answer c.in-Err-read_front.job_end _ c.in-Err-read_front.ensures.cut;
}
