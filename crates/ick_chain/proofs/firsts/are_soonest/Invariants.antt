use Rattle.std.proofs.Common.{take}
use Rattle.ick_chain.specs.Lasts.{LeadFirst}
use Rattle.ick_chain.proofs.firsts.are_soonest.Given as goal

abbrev pub invariant-steps : goal.invariant-steps
invariant-steps l = LeadFirst l.nodes l.lasts l.least (take l.used l.choices) l.at
