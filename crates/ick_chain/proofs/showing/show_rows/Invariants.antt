use Rattle.std.proofs.Common.{◌≡◌, Some, length, slice_get}
use Rattle.ick_code.specs.meaning.State.{State}
use Rattle.ick_chain.specs.Places.{states_in}
use Rattle.ick_chain.proofs.ShownLaws.{EachShown}
use Rattle.ick_chain.proofs.showing.show_rows.Given as goal

abbrev pub invariant-rows : goal.invariant-rows
invariant-rows g l = record {
  long : length l.shown.items ≡ l.at;
  each : (s : State) → slice_get (states_in (g.P.States.seen l.program) l.states) 0 ≡ Some s →
      EachShown (g.P.States.text l.program) s l.rows l.shown.items;
}
