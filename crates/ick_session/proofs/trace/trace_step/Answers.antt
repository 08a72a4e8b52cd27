use Rattle.std.proofs.Common.{◌∙◌, ap}
use Rattle.ick_code.specs.meaning.Move.{advance}
use Rattle.ick_session.proofs.ChangeLaws.{on_ok}
use Rattle.ick_session.proofs.trace.trace_step.Goals as goal

pub append_step-requires-clause-state : goal.append_step-requires-clause-state
append_step-requires-clause-state c =
    ap (λ m. m.state) c.in_ok-step.ensures.ok
    ∙ ap (λ m. advance m.program m.state c.args.done) c.requires.same

pub returns-clause-shows : goal.returns-clause-shows
returns-clause-shows c = on_ok c.step-2.result c.append_step.ensures

pub append_step-requires-clause-program : goal.append_step-requires-clause-program
append_step-requires-clause-program c = ap (λ m. m.program) c.in_ok-step.ensures.ok ∙ ap (λ m. m.program) c.requires.same
