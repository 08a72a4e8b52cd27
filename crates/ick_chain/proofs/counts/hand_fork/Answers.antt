use Rattle.ick_numbers.specs.Values.{natural, naturals}
use Rattle.ick_chain.specs.Chains.{dot}
use Rattle.ick_chain.proofs.Handing.{handed_fork}
use Rattle.ick_chain.proofs.counts.hand_fork.Goals as goal

pub returns-in_ok-pour-2-clause-handed : goal.returns-in_ok-pour-2-clause-handed
returns-in_ok-pour-2-clause-handed c = λ u.
    handed_fork u c.args.fork (dot u (naturals c.args.into.now.items)) (dot u (naturals c.pour.new.into.items))
    (dot u (naturals c.pour-then-fork-gt0.new.into.items)) (natural c.args.count.now) c.if-fork-gt0.true
    (c.in_ok-pour.ensures.poured u) (c.in_ok-pour-2.ensures.poured u)
