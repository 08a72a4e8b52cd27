use Rattle.std.proofs.Common.{◌≡◌, take}
use Rattle.ick_numbers.specs.Values.{natural, naturals}
use Rattle.ick_chain.specs.Chains.{never}
use Rattle.ick_chain.proofs.never.never_of.Given as goal

abbrev pub invariant-nodes : goal.invariant-nodes
invariant-nodes l = natural l.sum ≡ never (take l.at l.nodes) (naturals (take l.at l.visits))
