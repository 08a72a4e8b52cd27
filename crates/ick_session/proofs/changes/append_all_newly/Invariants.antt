use Rattle.ick_machine.specs.StateView.{present_state}
use Rattle.ick_inspect.specs.Text.{Adds}
use Rattle.ick_session.specs.Changes.{newly_text}
use Rattle.ick_session.proofs.changes.append_all_newly.Given as goal

abbrev pub invariant-loop-index : goal.invariant-loop-index
invariant-loop-index l =
    Adds l.fn.out l.out (newly_text l.word (present_state l.before) (present_state l.after) l.index)
