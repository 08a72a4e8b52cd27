use Rattle.std.proofs.Common.{◌≡◌, Some, slice_get}
use Rattle.ick_code.specs.meaning.State.{State}
use Rattle.ick_chain.specs.Places.{states_in}
use Rattle.ick_chain.proofs.FirstLaws.{AreSoonestBelow}
use Rattle.ick_chain.proofs.firsts.check_firsts.Given as goal

abbrev pub invariant-rows : goal.invariant-rows
invariant-rows g l = (s : State) →
    slice_get (states_in (g.P.States.seen l.program) l.answer.chain.states.items) 0 ≡ Some s →
    AreSoonestBelow (g.P.States.text l.program) s l.rows l.counts l.shown l.at
