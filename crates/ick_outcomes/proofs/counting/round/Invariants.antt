use Rattle.std.proofs.Common.{◌≡◌, ◌-◌, ◌++◌}
use Rattle.ick_outcomes.specs.Accounts.{all_ahead}
use Rattle.ick_outcomes.specs.Searches.{Adds}
use Rattle.ick_outcomes.specs.Seen.{nodes_of}
use Rattle.ick_outcomes.proofs.counting.round.Given as goal

abbrev pub invariant-nodes : goal.invariant-nodes
invariant-nodes g l = record {
  adds : Adds (g.P.States.seen l.program) (g.P.States.suits l.program)
      (λ q. all_ahead q (nodes_of (g.P.States.seen l.program) l.yielded)) (l.fn.due.left - 1) l.initial.search
      l.search;
  parts : l.fn.due.nodes.items ≡ l.yielded ++ l.node-iterator.rest.items;
  tools : g.P.States.serves l.program l.tools;
}
