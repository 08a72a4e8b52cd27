use Rattle.std.proofs.Common.{◌∙◌, [], ap, false, true}
use Rattle.ick_backtrack.specs.Machine.{Machine}
use Rattle.ick_code.specs.Compiled.{code_program}
use Rattle.ick_step.specs.Seen.{Seen}
use Rattle.ick_session.specs.Given.{given_by}
use Rattle.ick_session.specs.Session.{settings, seen}
use Rattle.ick_step_cli.specs.Plan.{planned_by}
use Rattle.ick_step_cli.specs.Talk.{typed}
use Rattle.ick_step_cli.specs.Tool.{run_of}
use Rattle.ick_step_cli.specs.Traced.{traced_run}
use Rattle.ick_step_cli.proofs.AnswerLaws.{are_positions, placed_gives, talk_gives}
use Rattle.ick_job.proofs.Ends.{where_answered, where_other}
use Rattle.ick_step_cli.specs.Left.{left_by_session, left_by_trace}
use Rattle.ick_step_cli.proofs.Leaving.{left_by}
use Rattle.ick_step_cli.proofs.dispatch.answer_code.Goals as goal

-- a session before its first step
abbrev session_at : Machine → Seen
session_at m = record { program = m.program; start = m.state; answers = []; work = m.work }

pub returns-then-plan-clause-gives : goal.returns-then-plan-clause-gives
returns-then-plan-clause-gives g c = λ reader_told writer_told cut.
    let program = code_program c.args.code.now in
    let f = run_of program c.args.input.now (planned_by c.args.plan) in
    let lines = typed c.args.terminal (g.R.ByteSource.left c.args.reader.now) in
    placed_gives f c.args.source.now c.deref.result.now lines c.args.plan.trace true c.answer_trace.result _ _
    c.if-plan.true
    (are_positions c.args.source.now program c.deref.result.now c.one_start.ensures cut
    (λ starts at. c.deref.ensures.value ∙ c.in-Ok.ensures.at starts at))
    (c.answer_trace.ensures.gives writer_told lines)

pub returns-clause-gives : goal.returns-clause-gives
returns-clause-gives g c = λ reader_told writer_told cut.
    let program = code_program c.args.code.now in
    let plan = planned_by c.args.plan in
    let f = run_of program c.args.input.now plan in
    let lines = typed c.args.terminal (g.R.ByteSource.left c.args.reader.now) in
    placed_gives f c.args.source.now c.deref-2.result.now lines c.args.plan.trace false c.talk.result _ _
    c.if-plan.false
    (are_positions c.args.source.now program c.deref-2.result.now c.one_start.ensures cut
    (λ starts at. c.deref-2.ensures.value ∙ c.in-Ok.ensures.at starts at))
    (talk_gives f (settings c.new-session.result) c.deref-2.result.now (seen c.new-session.result) lines c.talk.result _ _
    (c.new-session.ensures.fixed
    ∙ ap (λ m. traced_run m (given_by c.args.plan.given) c.args.plan.limit) c.in-Ok-new.ensures)
    (c.new-session.ensures.session ∙ ap session_at c.in-Ok-new.ensures)
    (c.talk.ensures.writes reader_told writer_told))

-- what is left in the reader
pub returns-then-plan-clause-left : goal.returns-then-plan-clause-left
returns-then-plan-clause-left g c = λ reader_told.
    where_answered c.answer_trace.result _
    (left_by c.args.plan.trace true (g.R.ByteSource.left c.args.reader.now) _ c.if-plan.true left_by_trace)

pub returns-clause-left : goal.returns-clause-left
returns-clause-left g c = λ reader_told.
    where_other c.talk.result _ _
    (λ h. left_by c.args.plan.trace false (g.R.ByteSource.left c.args.reader.now) (g.R.ByteSource.left c.talk.new.reader)
    c.if-plan.false (left_by_session _ h)) (c.talk.ensures.left reader_told)
