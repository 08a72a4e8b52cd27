use Rattle.std.proofs.Common.{◌≤◌, ◌∙◌, ℕ, List, arith, length, subst}
use Rattle.ick_code.specs.Compiled.{code_program}
use Rattle.ick_job.specs.Input.{longest_input}
use Rattle.ick_job.proofs.Ends.{where_unread}
use Rattle.ick_job.proofs.Texts.{given_none, given_some}
use Rattle.ick_outcomes_cli.specs.Job.{wanted}
use Rattle.ick_outcomes_cli.specs.Tool.{IsProgramAnswer, input_too_long}
use Rattle.ick_outcomes_cli.specs.declared.outcomes_end.OutcomesEnd.TheVariants.{By}
use Rattle.ick_outcomes_cli.proofs.Giving.{StopsUnlisted, gives_so, gives_unread, leaves_all_as, no_line}
use Rattle.ick_outcomes_cli.proofs.Giving.{program_listing, program_outcomes, stop_read}
use Rattle.ick_outcomes_cli.proofs.Leaving.{not_both, where_given}
use Rattle.ick_chain.proofs.Progressing.{shows_none}
use Rattle.ick_outcomes_cli.proofs.dispatch.answer_code.Goals as goal

pub returns-in-None-clause-leaves : goal.returns-in-None-clause-leaves
returns-in-None-clause-leaves g c =
    leaves_all_as c.answer_outcomes.result 0 0 0 0 _ _ _ _ _ _ _ _ c.answer_outcomes.ensures.leaves (omega arith)
    (omega (arith, c.in-Ok.ensures.count)) (omega arith)

pub returns-in-None-clause-gives : goal.returns-in-None-clause-gives
returns-in-None-clause-gives g c = λ listings_told reader_told writer_told.
    let program = code_program c.args.code.now in
    let read = c.in-Ok.ensures.whole reader_told in
    let whole = c.as_slice.ensures.value ∙ read in
    let fits = subst (λ (l : List ℕ). length l ≤ longest_input) read c.in-Ok.ensures.fits in
    let none = given_none _ _ c.in-None.is in
    gives_so c.answer_outcomes.result _ _
    (λ answer h. program_outcomes program _ _ _ _ _ _ answer none whole fits h)
    (λ line h. stop_read (wanted c.args.job.now) program _ _ line none whole h)
    (c.answer_outcomes.ensures.gives writer_told)

pub returns-in-Ok-clause-leaves : goal.returns-in-Ok-clause-leaves
returns-in-Ok-clause-leaves g c =
    leaves_all_as c.answer_listing.result _ _ 0 0 _ _ _ _ _ _ _ _ c.answer_listing.ensures.leaves (omega arith)
    (omega (arith, c.in-Ok.ensures.count)) (omega arith)

pub returns-in-Ok-clause-gives : goal.returns-in-Ok-clause-gives
returns-in-Ok-clause-gives g c = λ listings_told reader_told writer_told.
    let program = code_program c.args.code.now in
    let read = c.in-Ok.ensures.whole reader_told in
    let whole = c.as_slice-in-Some.ensures.value ∙ read in
    let fits = subst (λ (l : List ℕ). length l ≤ longest_input) read c.in-Ok.ensures.fits in
    gives_so {M = no_line} {N = StopsUnlisted (wanted c.args.job.now) program (g.R.ByteSource.left c.args.reader.now)}
    c.answer_listing.result _ _
    (λ answer h. program_listing program _ _ c.args.job.now.limit _ c.args.job.now.question _ _ _ _ _ answer
    c.unwrap_or.ensures (given_some _ _ _ c.in-Some.is) whole fits h)
    (λ line h. absurd h) (c.answer_listing.ensures.gives listings_told writer_told)

pub returns-clause-leaves : goal.returns-clause-leaves
returns-clause-leaves g c =
    leaves_all_as (By c.in-Err.job_end) 0 0 _ _ 0 0 _ _ _ _ _ _ c.in-Err.ensures.leaves (omega arith) (omega arith) (omega arith)

pub returns-clause-gives : goal.returns-clause-gives
returns-clause-gives g c = λ listings_told reader_told writer_told.
    gives_unread
    (IsProgramAnswer (code_program c.args.code.now) (g.R.ByteSource.left c.args.reader.now) c.args.job.now.limit
    c.args.job.now.question _ _) _ c.in-Err.job_end _ (c.in-Err.ensures.unread reader_told) (λ long. input_too_long _ long)

-- the input was read
pub returns-in-None-clause-left : goal.returns-in-None-clause-left
returns-in-None-clause-left g c = λ reader_told. where_given c.answer_outcomes.result _ (c.in-Ok.ensures.rest reader_told)

pub returns-in-Ok-clause-left : goal.returns-in-Ok-clause-left
returns-in-Ok-clause-left g c = λ reader_told. where_given c.answer_listing.result _ (c.in-Ok.ensures.rest reader_told)

pub returns-clause-left : goal.returns-clause-left
returns-clause-left g c = λ reader_told. where_unread _ c.in-Err.job_end _ (c.in-Err.ensures.unread reader_told)

-- a listing is opened
pub returns-in-Ok-clause-listings_kept : goal.returns-in-Ok-clause-listings_kept
returns-in-Ok-clause-listings_kept g c = λ none. absurd (not_both _ _ (given_some _ _ _ c.in-Some.is) none)

pub returns-in-Ok-clause-shown : goal.returns-in-Ok-clause-shown
returns-in-Ok-clause-shown g c = shows_none c.args.errors.now

pub returns-clause-shown : goal.returns-clause-shown
returns-clause-shown g c = shows_none c.args.errors.now
