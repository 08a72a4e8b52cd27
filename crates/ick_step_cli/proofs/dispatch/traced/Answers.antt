use Rattle.std.proofs.Common.{ap, subst}
use Rattle.std.specs.Prelude.{IfOk, OnErr, true}
use Rattle.ick_session.specs.Given.{given_by}
use Rattle.ick_step_cli.specs.Serve.{IsCutShort}
use Rattle.ick_step_cli.specs.Talk.{Lines}
use Rattle.ick_step_cli.specs.Tool.{IsBegun}
use Rattle.ick_step_cli.specs.Traced.{IsTraced, traced_run}
use Rattle.ick_step_cli.proofs.dispatch.traced.Goals as goal

pub returns-clause-traces : goal.returns-clause-traces
returns-clause-traces g c = λ told.
    subst (λ f. IfOk c.trace.result (λ stopped. IsTraced f c.args.code.now c.args.positions.now stopped
    (g.W.ByteSink.written c.args.writer.now) (g.W.ByteSink.written c.trace.new.writer)))
    (ap (λ m. traced_run m (given_by c.args.plan.given) c.args.plan.limit) c.in_ok-new.ensures)
    (c.trace.ensures.traces told)

pub returns-clause-cut : goal.returns-clause-cut
returns-clause-cut g c = λ told.
    subst (λ f. OnErr c.trace.result ((lines : Lines) →
    IsCutShort (IsBegun f c.args.positions.now lines true)
    (g.W.ByteSink.written c.args.writer.now) (g.W.ByteSink.written c.trace.new.writer)))
    (ap (λ m. traced_run m (given_by c.args.plan.given) c.args.plan.limit) c.in_ok-new.ensures)
    (c.trace.ensures.cut told)
