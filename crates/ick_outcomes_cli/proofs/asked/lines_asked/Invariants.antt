use Rattle.std.proofs.Common.{◌≤◌, ◌+◌, length}
use Rattle.ick_outcomes_cli.proofs.Explaining.{CountsOn, GoesOn}
use Rattle.ick_outcomes_cli.proofs.asked.lines_asked.Given as goal

abbrev pub invariant-loop-rest : goal.invariant-loop-rest
invariant-loop-rest g l = record {
  goes_on : GoesOn (g.P.States.seen l.program l.first).program.statements (g.P.States.seen l.program l.first).state
      l.limit l.listing l.rest l.text.items;
  counts_on : CountsOn (g.P.States.seen l.program l.first).program.statements (g.P.States.seen l.program l.first).state
      l.limit l.listing l.rest l.number;
  few : l.number + length l.rest ≤ length l.listing;
  tools : g.P.States.serves l.program l.tools;
}

abbrev pub decreases-loop-rest : goal.decreases-loop-rest
decreases-loop-rest g l = length l.rest
