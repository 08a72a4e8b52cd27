use Rattle.std.proofs.Common.{◌≡◌, Some, length, slice_get}
use Rattle.ick_code.specs.meaning.State.{State}
use Rattle.ick_chain.specs.Places.{states_in}
use Rattle.ick_chain.proofs.FewestLaws.{EachLabelled}
use Rattle.ick_chain.proofs.fewest.show_fewest.Given as goal

abbrev pub invariant-rows : goal.invariant-rows
invariant-rows g l = record {
  long : length l.shown.items ≡ l.at;
  each : (s : State) → slice_get (states_in (g.P.States.seen l.program) l.states) 0 ≡ Some s →
      EachLabelled (g.P.States.text l.program) s l.labels l.rows l.shown.items;
}
