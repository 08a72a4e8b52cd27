use Rattle.std.proofs.Common.{subst, sym}
use Rattle.ick_states.specs.Seen.{CanGoOnFrom}
use Rattle.ick_states.specs.declared.runs.KeptRun.{KeptRun}
use Rattle.ick_states.proofs.runs.StateSpaceStates.step_from.Goals as goal

pub move_on-requires-clause-kept : goal.move_on-requires-clause-kept
move_on-requires-clause-kept c =
    subst (λ (run : KeptRun). CanGoOnFrom c.args.self.now.lowered run.saved) (sym c.deref_mut.ensures.value)
    c.in_ok-copy.ensures.state
