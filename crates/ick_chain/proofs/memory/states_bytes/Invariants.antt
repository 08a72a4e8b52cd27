use Rattle.std.proofs.Common.{◌≤◌, take}
use Rattle.ick_chain.specs.Reached.{bytes_of}
use Rattle.ick_chain.proofs.memory.states_bytes.Given as goal

abbrev pub invariant-states : goal.invariant-states
invariant-states g l = l.sum ≤ bytes_of (g.P.States.size l.program) (take l.at l.states)
