use Rattle.std.proofs.Common.{refl, subst, sym}
use Rattle.std.specs.Prelude.{IfErr, IfOk}
use Rattle.ick_chain.specs.Progress.{OnlyShows}
use Rattle.ick_job.specs.Program.{RefusesUnread, ServesArguments, both, files_by, stream}
use Rattle.ick_outcomes_cli.specs.Behind.{Behind}
use Rattle.ick_outcomes_cli.specs.Program.{outcomes}
use Rattle.ick_system.specs.Arguments.{after_name}
use Rattle.outcomes.proofs.serving.answer.Goals as goal

-- arguments that were read
pub returns-in-Ok-clause-served : goal.returns-in-Ok-clause-served
returns-in-Ok-clause-served g c =
    let call = c.serve_arguments in
    let one = files_by g.F.ByteSource.told g.F.ByteSource.failed g.F.Files.named c.args.files.now call.new.files in
    let other = files_by g.L.ByteSource.told g.L.ByteSource.failed g.L.Files.named c.args.listings.now
    call.new.listings in
    let reader = stream g.R.ByteSource.told g.R.ByteSource.failed g.R.ByteSource.left c.args.reader.now
    call.new.reader in
    let writer = stream g.W.ByteSink.told g.W.ByteSink.failed g.W.ByteSink.written c.args.writer.now call.new.writer in
    subst (λ r. IfOk r (λ a. Behind
    (OnlyShows g.E.ByteSink.told g.E.ByteSink.failed g.E.ByteSink.written g.E.Progress.shows c.args.errors.now)
    (λ middle. ServesArguments outcomes (after_name a.items) (both one other) reader writer
    (stream g.E.ByteSink.told g.E.ByteSink.failed g.E.ByteSink.written middle call.new.errors) call.result)))
    (sym c.in-Ok.is)
    (subst (λ w. Behind
    (OnlyShows g.E.ByteSink.told g.E.ByteSink.failed g.E.ByteSink.written g.E.Progress.shows c.args.errors.now)
    (λ middle. ServesArguments outcomes (after_name w) (both one other) reader writer
    (stream g.E.ByteSink.told g.E.ByteSink.failed g.E.ByteSink.written middle call.new.errors) call.result))
    c.deref.ensures.value call.ensures)

-- arguments that can't be read
pub returns-in-Err-clause-unread : goal.returns-in-Err-clause-unread
returns-in-Err-clause-unread g c =
    let call = c.refuse_words in
    let one = files_by g.F.ByteSource.told g.F.ByteSource.failed g.F.Files.named c.args.files.now c.args.files.now in
    let other = files_by g.L.ByteSource.told g.L.ByteSource.failed g.L.Files.named c.args.listings.now
    c.args.listings.now in
    let reader = stream g.R.ByteSource.told g.R.ByteSource.failed g.R.ByteSource.left c.args.reader.now
    c.args.reader.now in
    let writer = stream g.W.ByteSink.told g.W.ByteSink.failed g.W.ByteSink.written c.args.writer.now
    c.args.writer.now in
    let errors = stream g.E.ByteSink.told g.E.ByteSink.failed g.E.ByteSink.written c.args.errors.now
    call.new.errors in
    subst (λ r. IfErr r (λ fault. RefusesUnread fault (both one other) reader writer errors call.result)) (sym c.in-Err.is)
    (record { untouched = (refl, refl, refl); line = call.ensures })
