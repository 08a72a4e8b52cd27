use Rattle.std.proofs.Common.{◌∙◌, arith, refl}
use Rattle.ick_job.proofs.Ends.{leaves_as, where_answered, where_cut, where_unopened}
use Rattle.ick_job.proofs.Texts.{given_none, given_some, no_file, some_file}
use Rattle.ick_stages_cli.specs.Job.{wanted}
use Rattle.ick_stages_cli.specs.Tool.{nothing}
use Rattle.ick_stages_cli.proofs.Giving.{gives_so, left_with_file, left_without_file, read_with_file, read_without_file}
use Rattle.ick_stages_cli.proofs.Giving.{gives_unread, shown_with_file, shown_without_file, unread_with_file}
use Rattle.ick_stages_cli.proofs.dispatch.perform.Goals as goal

-- with a file
pub returns-in-Ok-clause-leaves : goal.returns-in-Ok-clause-leaves
returns-in-Ok-clause-leaves g c =
    leaves_as c.answer_source.result _ _ _ _ _ _ _ _ _ _ _ _ c.answer_source.ensures.leaves
    (omega (arith, c.in-Ok.ensures.count)) (omega arith) (omega arith)

pub returns-in-Ok-clause-gives : goal.returns-in-Ok-clause-gives
returns-in-Ok-clause-gives g c = λ files_told reader_told writer_told.
    let job = wanted c.args.job.now in
    let front = c.as_slice.ensures.value ∙ c.in-Ok.ensures.front files_told in
    gives_so c.answer_source.result _ _
    (λ answer h. read_with_file job _ _ c.in-Some.name.now (g.F.Files.named c.args.files.now) _ _ _ _ answer refl
    (given_some _ _ _ c.in-Some.is) c.in-Ok.ensures.count front h)
    (λ lines h. shown_with_file job _ _ c.in-Some.name.now (g.F.Files.named c.args.files.now) _ _ _ _ lines refl
    (given_some _ _ _ c.in-Some.is) c.in-Ok.ensures.count front h)
    (c.answer_source.ensures.gives writer_told)

pub returns-in-Err-clause-gives : goal.returns-in-Err-clause-gives
returns-in-Err-clause-gives g c = λ files_told reader_told writer_told.
    unread_with_file (wanted c.args.job.now) _ c.in-Some.name.now (g.F.Files.named c.args.files.now) _ _ _
    c.in-Err.job_end _ (given_some _ _ _ c.in-Some.is) c.in-Err.ensures.unopened c.in-Err.ensures.leaves.opened

-- without a file
pub returns-in-Ok-read_front-clause-leaves : goal.returns-in-Ok-read_front-clause-leaves
returns-in-Ok-read_front-clause-leaves g c =
    leaves_as c.answer_source-in-Ok-read_front.result _ _ _ _ _ _ _ _ _ _ _ _
    c.answer_source-in-Ok-read_front.ensures.leaves (omega arith) (omega (arith, c.in-Ok-read_front.ensures.count))
    (omega arith)

pub returns-in-Ok-read_front-clause-gives : goal.returns-in-Ok-read_front-clause-gives
returns-in-Ok-read_front-clause-gives g c = λ files_told reader_told writer_told.
    let job = wanted c.args.job.now in
    let front = c.as_slice-in-Ok-read_front.ensures.value ∙ c.in-Ok-read_front.ensures.front reader_told in
    gives_so c.answer_source-in-Ok-read_front.result _ _
    (λ answer h. read_without_file job _ _ (g.F.Files.named c.args.files.now) _ _ _ _ answer refl
    (given_none _ _ c.in-None.is) front h)
    (λ lines h. shown_without_file job _ _ (g.F.Files.named c.args.files.now) _ _ _ _ lines refl
    (given_none _ _ c.in-None.is) front h)
    (c.answer_source-in-Ok-read_front.ensures.gives writer_told)

pub returns-in-Err-read_front-clause-gives : goal.returns-in-Err-read_front-clause-gives
returns-in-Err-read_front-clause-gives g c = λ files_told reader_told writer_told.
    gives_unread _ _ c.in-Err-read_front.job_end _ c.in-Err-read_front.ensures.cut (nothing _)

-- what is left in the reader
pub returns-in-Ok-clause-left : goal.returns-in-Ok-clause-left
returns-in-Ok-clause-left g c = λ files_told reader_told.
    where_answered c.answer_source.result _
    (left_with_file (wanted c.args.job.now).file c.in-Some.name.now _ (given_some _ _ _ c.in-Some.is))

pub returns-in-Err-clause-left : goal.returns-in-Err-clause-left
returns-in-Err-clause-left g c = λ files_told reader_told.
    where_unopened c.in-Err.job_end _ c.in-Err.ensures.unopened

pub returns-in-Ok-read_front-clause-left : goal.returns-in-Ok-read_front-clause-left
returns-in-Ok-read_front-clause-left g c = λ files_told reader_told.
    where_answered c.answer_source-in-Ok-read_front.result _
    (left_without_file (wanted c.args.job.now).file _ _ (given_none _ _ c.in-None.is)
    (c.in-Ok-read_front.ensures.rest reader_told))

pub returns-in-Err-read_front-clause-left : goal.returns-in-Err-read_front-clause-left
returns-in-Err-read_front-clause-left g c = λ files_told reader_told.
    where_cut c.in-Err-read_front.job_end _ c.in-Err-read_front.ensures.cut

-- devices that aren't used
pub returns-in-Ok-clause-files_kept : goal.returns-in-Ok-clause-files_kept
returns-in-Ok-clause-files_kept g c = λ none. absurd (no_file _ _ (given_some _ _ _ c.in-Some.is) none)

pub returns-in-Err-clause-files_kept : goal.returns-in-Err-clause-files_kept
returns-in-Err-clause-files_kept g c = λ none. absurd (no_file _ _ (given_some _ _ _ c.in-Some.is) none)

pub returns-in-Ok-read_front-clause-reader_kept : goal.returns-in-Ok-read_front-clause-reader_kept
returns-in-Ok-read_front-clause-reader_kept g c = λ some. absurd (some_file _ (given_none _ _ c.in-None.is) some)

pub returns-in-Err-read_front-clause-reader_kept : goal.returns-in-Err-read_front-clause-reader_kept
returns-in-Err-read_front-clause-reader_kept g c = λ some. absurd (some_file _ (given_none _ _ c.in-None.is) some)

-- a source that is read before anything is written
pub returns-in-Ok-clause-source_first : goal.returns-in-Ok-clause-source_first
returns-in-Ok-clause-source_first g c = λ none more. absurd (no_file _ _ (given_some _ _ _ c.in-Some.is) none)

pub returns-in-Ok-read_front-clause-source_first : goal.returns-in-Ok-read_front-clause-source_first
returns-in-Ok-read_front-clause-source_first g c = λ none more. absurd (omega (arith, c.in-Ok-read_front.ensures.count))
