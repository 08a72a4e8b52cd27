use Rattle.std.proofs.Common.{take}
use Rattle.ick_chain.specs.Shown.{LeadAlong}
use Rattle.ick_chain.proofs.walking.leads_from.Given as goal

abbrev pub invariant-steps : goal.invariant-steps
invariant-steps l = LeadAlong l.nodes l.from (take l.used l.choices) l.at
