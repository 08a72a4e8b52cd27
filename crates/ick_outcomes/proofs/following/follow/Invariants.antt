use Rattle.std.proofs.Common.{◌≡◌, ◌≤◌, length, take}
use Rattle.ick_outcomes.proofs.AskerLaws.{Follows}
use Rattle.ick_outcomes.proofs.following.follow.Given as goal

abbrev pub invariant-steps : goal.invariant-steps
invariant-steps g l = record {
  follows : Follows (g.P.States.seen l.program l.fn.state).program (g.P.States.seen l.program l.fn.state).state
      l.limit (take (length l.asked.items) l.choices) (g.P.States.seen l.program l.state).state l.left l.asked.items;
  program : (g.P.States.seen l.program l.state).program ≡ (g.P.States.seen l.program l.fn.state).program;
  within : length l.asked.items ≤ length l.choices;
  state : g.P.States.suits l.program l.state;
  tools : g.P.States.serves l.program l.tools;
}

abbrev pub decreases-steps : goal.decreases-steps
decreases-steps g l = l.left
