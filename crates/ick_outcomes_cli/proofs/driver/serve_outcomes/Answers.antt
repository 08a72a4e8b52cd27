use Rattle.std.proofs.Common.{ap, arith, refl}
use Rattle.clap.specs.Walk.{texts}
use Rattle.ick_chain.proofs.Progressing.{shows_none}
use Rattle.ick_job.specs.Program.{both, files_by, stream}
use Rattle.ick_job.specs.Serve.{counts}
use Rattle.ick_job.proofs.Programs.{refused_words}
use Rattle.ick_outcomes_cli.specs.Job.{wanted}
use Rattle.ick_outcomes_cli.specs.Program.{outcomes}
use Rattle.ick_outcomes_cli.specs.Serve.{as_ick}
use Rattle.ick_outcomes_cli.proofs.Doing.{may_run_out, serves}
use Rattle.ick_outcomes_cli.proofs.driver.serve_outcomes.Goals as goal

-- a report counts no failure
pub report-requires : goal.report-requires
report-requires g c = omega (arith, c.requires.errors_sound, c.perform-outcomes_end.ensures.shown.failed_as_before)

-- arguments that ask for a job
pub returns-in-Ok : goal.returns-in-Ok
returns-in-Ok g c =
    let call = c.perform-outcomes_end in
    let work = call.ensures in
    let served = serves (texts c.args.words.now) (wanted c.in-Ok.job)
    (files_by g.F.ByteSource.told g.F.ByteSource.failed g.F.Files.named c.args.files.now call.new.files)
    (files_by g.L.ByteSource.told g.L.ByteSource.failed g.L.Files.named c.args.listings.now call.new.listings)
    (stream g.R.ByteSource.told g.R.ByteSource.failed g.R.ByteSource.left c.args.reader.now call.new.reader)
    (stream g.W.ByteSink.told g.W.ByteSink.failed g.W.ByteSink.written c.args.writer.now call.new.writer)
    (stream g.E.ByteSink.told g.E.ByteSink.failed g.E.ByteSink.written call.new.errors c.report.new.errors)
    c.report.result call.result c.in-Ok.ensures.job c.in-Ok.ensures.law
    (record {
      leaves = work.leaves;
      gives = work.gives;
      left = work.left;
      files_kept = work.files_kept;
      listings_kept = work.listings_kept;
      both_kept = work.both_kept;
      source_first = work.source_first;
    }) c.report.ensures in
    record { middle = call.new.errors; shown = work.shown; served = served }

-- arguments whose parse failed
pub returns-in-Err : goal.returns-in-Err
returns-in-Err g c =
    let call = c.answer_words in
    let one = files_by g.F.ByteSource.told g.F.ByteSource.failed g.F.Files.named c.args.files.now c.args.files.now in
    let other = files_by g.L.ByteSource.told g.L.ByteSource.failed g.L.Files.named c.args.listings.now
    c.args.listings.now in
    let reader = stream g.R.ByteSource.told g.R.ByteSource.failed g.R.ByteSource.left c.args.reader.now
    c.args.reader.now in
    let writer = stream g.W.ByteSink.told g.W.ByteSink.failed g.W.ByteSink.written c.args.writer.now call.new.writer in
    let errors = stream g.E.ByteSink.told g.E.ByteSink.failed g.E.ByteSink.written c.args.errors.now
    call.new.errors in
    let served = refused_words outcomes (texts c.args.words.now) c.in-Err.error (both one other) reader writer errors call.result c.in-Err.ensures.law
    refl refl call.ensures.usage call.ensures.help call.ensures.either (call.ensures.said _ _)
    (λ e. let memory = call.ensures.memory e in record {
      same_files = refl;
      same_reader = refl;
      same_writer = memory.0;
      calm = ap (counts _ _) (ap g.W.ByteSink.failed memory.0);
      unwritten = ap g.W.ByteSink.written memory.0;
      line = memory.1;
    })
    as_ick (may_run_out (texts c.args.words.now) one other reader writer errors call.result) in
    record { middle = c.args.errors.now; shown = shows_none c.args.errors.now; served = served }
