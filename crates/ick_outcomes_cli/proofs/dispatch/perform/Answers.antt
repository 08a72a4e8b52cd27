use Rattle.std.proofs.Common.{◌≡◌, ◌∙◌, true, false, sym}
use Rattle.ick_outcomes_cli.specs.Job.{wanted}
use Rattle.ick_outcomes_cli.specs.Left.{left_both, left_one}
use Rattle.ick_outcomes_cli.specs.Tool.{MayStop, both, both_text, one}
use Rattle.ick_outcomes_cli.specs.declared.outcomes_end.OutcomesEnd.TheVariants.{By}
use Rattle.ick_outcomes_cli.proofs.Giving.{gives_refusal, gives_so, leaves_usage, no_line}
use Rattle.ick_outcomes_cli.proofs.Leaving.{where_given, where_given_other}
use Rattle.ick_chain.proofs.Progressing.{shows_none}
use Rattle.ick_outcomes_cli.proofs.dispatch.perform.Goals as goal

-- both are asked for
pub returns-then-asks_both-clause-leaves : goal.returns-then-asks_both-clause-leaves
returns-then-asks_both-clause-leaves g c = leaves_usage (both_text (wanted c.args.job.now)) c.refuse_both.result _ _ _ c.refuse_both.ensures

pub returns-then-asks_both-clause-gives : goal.returns-then-asks_both-clause-gives
returns-then-asks_both-clause-gives g c = λ files_told listings_told reader_told writer_told.
    gives_refusal no_line _ 64 (both_text (wanted c.args.job.now)) c.refuse_both.result _ c.refuse_both.ensures
    (both (sym c.asks_both.ensures ∙ c.if-asks_both.true))

pub returns-then-asks_both-clause-left : goal.returns-then-asks_both-clause-left
returns-then-asks_both-clause-left g c = λ files_told reader_told.
    where_given (By c.refuse_both.result) _ (left_both (sym c.asks_both.ensures ∙ c.if-asks_both.true))

-- one is asked for
pub returns-clause-gives : goal.returns-clause-gives
returns-clause-gives g c = λ files_told listings_told reader_told writer_told.
    let no = sym c.asks_both.ensures ∙ c.if-asks_both.false in
    gives_so {M = MayStop (wanted c.args.job.now) _ _} {N = MayStop (wanted c.args.job.now) _ _} c.answer_job.result _ _
    (λ answer h. one answer no h) (λ line h. h)
    (c.answer_job.ensures.gives files_told listings_told reader_told writer_told)

pub returns-clause-left : goal.returns-clause-left
returns-clause-left g c = λ files_told reader_told.
    where_given_other c.answer_job.result _ _
    (λ h. left_one _ (sym c.asks_both.ensures ∙ c.if-asks_both.false) h) (c.answer_job.ensures.left files_told reader_told)

pub returns-clause-both_kept : goal.returns-clause-both_kept
returns-clause-both_kept g c = λ yes.
    let no : true ≡ false = sym yes ∙ (sym c.asks_both.ensures ∙ c.if-asks_both.false) in absurd (cc)

pub returns-then-asks_both-clause-shown : goal.returns-then-asks_both-clause-shown
returns-then-asks_both-clause-shown g c = shows_none c.args.errors.now
