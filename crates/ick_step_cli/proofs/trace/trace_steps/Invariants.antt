use Rattle.std.proofs.Common.{◌≡◌, ◌≤◌, ◌+◌, ◌-◌}
use Rattle.ick_machine.specs.Seen.{trailed_machine}
use Rattle.ick_session.specs.Given.{given_by}
use Rattle.ick_step_cli.specs.Traced.{traced_run}
use Rattle.ick_step_cli.proofs.TraceLaws.{Tracing}
use Rattle.ick_step_cli.proofs.trace.trace_steps.Given as goal

abbrev pub invariant-on : goal.invariant-on
invariant-on g l = record {
  same : trailed_machine l.machines.after ≡ trailed_machine l.machines.before;
  program : (trailed_machine l.machines.before).program ≡ (trailed_machine l.initial.machines.before).program;
  work : (trailed_machine l.machines.before).work ≡ (trailed_machine l.initial.machines.before).work + l.steps;
  within : l.steps ≤ l.limit;
  chosen : l.chosen ≤ l.steps;
  given : given_by l.given ≡ given_by l.initial.given;
  writes : g.W.ByteSink.failed l.writer ≡ g.W.ByteSink.failed l.initial.writer;
  tracing :
      Tracing (traced_run (trailed_machine l.initial.machines.before) (given_by l.initial.given) l.limit) l.code l.positions
      (trailed_machine l.machines.before) l.steps l.chosen g.W.ByteSink.told
      (g.W.ByteSink.written l.initial.writer) (g.W.ByteSink.written l.writer) l.out;
}

abbrev pub decreases-on : goal.decreases-on
decreases-on g l = l.limit - l.steps
