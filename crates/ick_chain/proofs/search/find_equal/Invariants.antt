use Rattle.std.proofs.Common.{◌≡◌, ◌<◌, ℕ, Some, slice_get}
use Rattle.ick_chain.specs.Places.{states_in}
use Rattle.ick_chain.proofs.search.find_equal.Given as goal

abbrev pub invariant-states : goal.invariant-states
invariant-states g l =
    (k : ℕ) → k < l.at → slice_get (states_in (g.P.States.seen l.program) l.states) k
    ≡ Some ((g.P.States.seen l.program l.state).state) → ⊥
