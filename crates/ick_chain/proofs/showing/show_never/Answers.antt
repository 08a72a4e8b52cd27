use Rattle.std.proofs.Common.{subst}
use Rattle.ick_chain.specs.Shown.{LeadToNode}
use Rattle.ick_chain.proofs.ShownLaws.{never_ends}
use Rattle.ick_chain.proofs.showing.show_never.Goals as goal

pub returns-then-leads-clause-some : goal.returns-then-leads-clause-some
returns-then-leads-clause-some c =
    let nodes = c.args.nodes.now in
    let at = c.first_stuck-at.result in
    never_ends nodes c.in_ok-choices.choices.items at c.requires
    (subst (λ z. LeadToNode nodes z at) c.deref.ensures.value (c.leads.ensures c.if-leads.true))
    (c.is_stuck.ensures c.if-is_stuck.true)
