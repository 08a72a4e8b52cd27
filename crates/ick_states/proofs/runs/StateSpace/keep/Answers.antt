use Rattle.ick_runtime.specs.Memory.{view_in}
use Rattle.ick_marks.specs.Saved.{saved_view}
use Rattle.ick_states.proofs.Keeping.{run_same}
use Rattle.ick_states.proofs.runs.StateSpace.keep.Goals as goal

pub returns-clause-kept : goal.returns-clause-kept
returns-clause-kept c = ∣ (view_in c.args.memory.now, c.requires, c.in_ok-saved.ensures) ∣₁

pub returns-clause-states : goal.returns-clause-states
returns-clause-states c = λ input.
    run_same c.args.self.now.lowered.code.now c.args.self.now.lowered.parts input (saved_view c.in_ok-saved.saved)
    (view_in c.args.memory.now) c.args.end (c.law.ensures (view_in c.args.memory.now) c.in_ok-saved.ensures input)
