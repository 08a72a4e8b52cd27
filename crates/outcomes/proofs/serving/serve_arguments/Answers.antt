use Rattle.std.proofs.Common.{refl}
use Rattle.ick_chain.proofs.Progressing.{shows_none}
use Rattle.ick_job.specs.Program.{both, files_by, stream}
use Rattle.ick_job.specs.Serve.{memory_failed}
use Rattle.ick_job.proofs.Programs.{RanOut, unserved}
use Rattle.ick_outcomes_cli.specs.Program.{outcomes}
use Rattle.ick_outcomes_cli.specs.Serve.{as_ick}
use Rattle.ick_outcomes_cli.proofs.Doing.{may_run_out}
use Rattle.ick_system.specs.Arguments.{after_name}
use Rattle.outcomes.proofs.serving.serve_arguments.Goals as goal

pub returns-in-Ok : goal.returns-in-Ok
returns-in-Ok g c = rw (c.as_slice.ensures.value, c.in-Ok.ensures) at c.serve_outcomes.ensures

-- memory ran out for the arguments
pub returns-in-Err : goal.returns-in-Err
returns-in-Err g c =
    let one = files_by g.F.ByteSource.told g.F.ByteSource.failed g.F.Files.named c.args.files.now c.args.files.now in
    let other = files_by g.L.ByteSource.told g.L.ByteSource.failed g.L.Files.named c.args.listings.now
    c.args.listings.now in
    let reader = stream g.R.ByteSource.told g.R.ByteSource.failed g.R.ByteSource.left c.args.reader.now
    c.args.reader.now in
    let writer = stream g.W.ByteSink.told g.W.ByteSink.failed g.W.ByteSink.written c.args.writer.now
    c.args.writer.now in
    let errors = stream g.E.ByteSink.told g.E.ByteSink.failed g.E.ByteSink.written c.args.errors.now
    c.refuse_words.new.errors in
    let out : RanOut (both one other) reader writer errors c.refuse_words.result = record {
      same_files = refl;
      same_reader = refl;
      same_writer = refl;
      calm = refl;
      unwritten = refl;
      line = c.refuse_words.ensures;
    } in
    let served = unserved outcomes (after_name c.args.arguments.now) (both one other) reader writer errors
    c.refuse_words.result out (may_run_out (after_name c.args.arguments.now) one other reader writer errors c.refuse_words.result out)
    (as_ick _ _ (memory_failed refl)) in
    record { middle = c.args.errors.now; shown = shows_none c.args.errors.now; served = served }
