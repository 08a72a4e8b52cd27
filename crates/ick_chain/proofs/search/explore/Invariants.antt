use Rattle.std.proofs.Common.{◌≡◌, ◌<◌, ◌≤◌, ℕ, Some, length, slice_get}
use Rattle.ick_chain.specs.Found.{IsFound}
use Rattle.ick_chain.specs.Places.{AllTell, states_in}
use Rattle.ick_chain.specs.Progress.{OnlyShows}
use Rattle.ick_chain.specs.Reached.{IsLedTo, in_64_bits, steps_in}
use Rattle.ick_chain.proofs.search.explore.Given as goal

abbrev pub invariant-nodes : goal.invariant-nodes
invariant-nodes g l = record {
  long : length l.nodes.items ≡ l.at;
  within : l.at ≤ length l.found.states.items;
  each : AllTell (g.P.States.text l.program) (states_in (g.P.States.seen l.program) l.found.states.items) l.nodes.items;
  first : slice_get (states_in (g.P.States.seen l.program) l.found.states.items) 0
      ≡ Some ((g.P.States.seen l.program l.fn.state).state);
  found : IsFound (g.P.States.text l.program) (g.P.States.seen l.program) (g.P.States.suits l.program)
      (g.P.States.key l.program) (g.P.States.size l.program) l.found;
  tools : g.P.States.serves l.program l.tools;
  led : (i : ℕ) → 0 < i → i < length l.found.states.items → IsLedTo l.nodes.items i;
  counted : l.steps ≡ in_64_bits (steps_in l.nodes.items);
  shown : OnlyShows g.E.ByteSink.told g.E.ByteSink.failed g.E.ByteSink.written g.E.Progress.shows l.fn.progress
      l.progress;
}
