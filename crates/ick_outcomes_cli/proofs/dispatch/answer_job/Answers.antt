use Rattle.std.proofs.Common.{◌∙◌, arith, refl}
use Rattle.ick_job.proofs.Ends.{where_unopened}
use Rattle.ick_job.proofs.Texts.{given_none, given_some, no_file}
use Rattle.ick_outcomes_cli.specs.Job.{wanted}
use Rattle.ick_outcomes_cli.specs.Tool.{MayStop, Stops}
use Rattle.ick_outcomes_cli.proofs.Giving.{gives_so, leaves_all_as, read_with_file, read_without_file}
use Rattle.ick_outcomes_cli.proofs.Giving.{stop_with_file, stop_without_file, unread_with_file}
use Rattle.ick_outcomes_cli.proofs.Leaving.{where_given, where_given_other, with_file, without_file}
use Rattle.ick_chain.proofs.Progressing.{shows_none}
use Rattle.ick_outcomes_cli.proofs.dispatch.answer_job.Goals as goal

-- with a file
pub returns-in-Ok-clause-leaves : goal.returns-in-Ok-clause-leaves
returns-in-Ok-clause-leaves g c =
    leaves_all_as c.answer_source.result _ _ _ _ _ _ _ _ _ _ _ _ c.answer_source.ensures.leaves
    (omega (arith, c.in-Ok.ensures.count)) (omega arith) (omega arith)

pub returns-in-Ok-clause-gives : goal.returns-in-Ok-clause-gives
returns-in-Ok-clause-gives g c = λ files_told listings_told reader_told writer_told.
    let job = wanted c.args.job.now in
    let named = g.F.Files.named c.args.files.now in
    let file = given_some _ _ _ c.in-Some.is in
    let front = c.as_slice.ensures.value ∙ c.in-Ok.ensures.front files_told in
    gives_so {M = Stops job _ _} {N = MayStop job _ _} c.answer_source.result _ _
    (λ answer h. read_with_file job _ c.in-Some.name.now named _ _ _ _ _ answer file c.in-Ok.ensures.count front h)
    (λ line h. stop_with_file job _ c.in-Some.name.now named _ _ _ _ line file c.in-Ok.ensures.count front h)
    (c.answer_source.ensures.gives listings_told reader_told writer_told)

pub returns-in-Err-clause-gives : goal.returns-in-Err-clause-gives
returns-in-Err-clause-gives g c = λ files_told listings_told reader_told writer_told.
    unread_with_file (wanted c.args.job.now) _ c.in-Some.name.now (g.F.Files.named c.args.files.now) _ _ _ _
    c.in-Err.job_end _ (given_some _ _ _ c.in-Some.is) c.in-Err.ensures.unopened c.in-Err.ensures.leaves.opened

-- without a file
pub returns-in-Ok-read_front-clause-leaves : goal.returns-in-Ok-read_front-clause-leaves
returns-in-Ok-read_front-clause-leaves g c =
    leaves_all_as c.answer_source-in-Ok-read_front.result _ _ _ _ _ _ _ _ _ _ _ _
    c.answer_source-in-Ok-read_front.ensures.leaves (omega arith) (omega (arith, c.in-Ok-read_front.ensures.count))
    (omega arith)

pub returns-in-Ok-read_front-clause-gives : goal.returns-in-Ok-read_front-clause-gives
returns-in-Ok-read_front-clause-gives g c = λ files_told listings_told reader_told writer_told.
    let job = wanted c.args.job.now in
    let named = g.F.Files.named c.args.files.now in
    let file = given_none _ _ c.in-None.is in
    let front = c.as_slice-in-Ok-read_front.ensures.value ∙ c.in-Ok-read_front.ensures.front reader_told in
    gives_so {M = Stops job _ _} {N = MayStop job _ _} c.answer_source-in-Ok-read_front.result _ _
    (λ answer h. read_without_file job _ named _ _ _ _ _ _ answer file c.new-nothing.ensures front h)
    (λ line h. stop_without_file job _ named _ _ _ _ _ line file c.new-nothing.ensures front h)
    (c.answer_source-in-Ok-read_front.ensures.gives listings_told refl writer_told)

-- what is left in the reader
pub returns-in-Ok-clause-left : goal.returns-in-Ok-clause-left
returns-in-Ok-clause-left g c = λ files_told reader_told.
    where_given_other c.answer_source.result _ _
    (λ h. with_file (wanted c.args.job.now) c.in-Some.name.now (g.F.Files.named c.args.files.now) _ _ _
    (given_some _ _ _ c.in-Some.is) (c.as_slice.ensures.value ∙ c.in-Ok.ensures.front files_told) h)
    (c.answer_source.ensures.left reader_told)

pub returns-in-Err-clause-left : goal.returns-in-Err-clause-left
returns-in-Err-clause-left g c = λ files_told reader_told.
    where_unopened c.in-Err.job_end _ c.in-Err.ensures.unopened

pub returns-in-Ok-read_front-clause-left : goal.returns-in-Ok-read_front-clause-left
returns-in-Ok-read_front-clause-left g c = λ files_told reader_told.
    where_given c.answer_source-in-Ok-read_front.result _
    (without_file (wanted c.args.job.now) (g.F.Files.named c.args.files.now) _ _ (given_none _ _ c.in-None.is)
    (c.in-Ok-read_front.ensures.rest reader_told))

-- files that aren't opened
pub returns-in-Ok-clause-files_kept : goal.returns-in-Ok-clause-files_kept
returns-in-Ok-clause-files_kept g c = λ none. absurd (no_file _ _ (given_some _ _ _ c.in-Some.is) none)

pub returns-in-Err-clause-files_kept : goal.returns-in-Err-clause-files_kept
returns-in-Err-clause-files_kept g c = λ none. absurd (no_file _ _ (given_some _ _ _ c.in-Some.is) none)

-- a source that is read before anything is written
pub returns-in-Ok-clause-source_first : goal.returns-in-Ok-clause-source_first
returns-in-Ok-clause-source_first g c = λ none more. absurd (no_file _ _ (given_some _ _ _ c.in-Some.is) none)

pub returns-in-Ok-read_front-clause-source_first : goal.returns-in-Ok-read_front-clause-source_first
returns-in-Ok-read_front-clause-source_first g c = λ none more. absurd (omega (arith, c.in-Ok-read_front.ensures.count))

pub returns-in-Err-clause-shown : goal.returns-in-Err-clause-shown
returns-in-Err-clause-shown g c = shows_none c.args.errors.now

pub returns-in-Err-read_front-clause-shown : goal.returns-in-Err-read_front-clause-shown
returns-in-Err-read_front-clause-shown g c = shows_none c.args.errors.now
