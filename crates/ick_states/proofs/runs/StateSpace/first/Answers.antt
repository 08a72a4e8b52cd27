use Rattle.std.proofs.Common.{None, ap, subst, sym, ◌∙◌}
use Rattle.ick_code.specs.meaning.State.{State}
use Rattle.ick_runtime.specs.Inputs.{input_of}
use Rattle.ick_outcomes.specs.Accounts.{Configuration}
use Rattle.ick_states.specs.Seen.{CanGoOnFrom, seen_of, text_of}
use Rattle.ick_states.specs.declared.runs.KeptRun.{KeptRun}
use Rattle.ick_states.proofs.runs.StateSpace.first.Goals as goal

pub returns-clause-first : goal.returns-clause-first
returns-clause-first c =
    let runs = c.args.self.now in
    let input = input_of runs.input.now in
    ap (seen_of runs) c.in_ok-new.ensures.ok
    ∙ ap {B = Configuration} (λ s. record { program = text_of runs; state = s })
    (c.in_ok-state.ensures.states input
    ∙ ap {A = State} (λ s. record s { end = None }) (c.in_ok-memory.ensures.first input))

pub returns-clause-state : goal.returns-clause-state
returns-clause-state c =
    subst (λ (run : KeptRun). CanGoOnFrom c.args.self.now.lowered run.saved) (sym c.in_ok-new.ensures.ok)
    c.in_ok-state.ensures.kept
