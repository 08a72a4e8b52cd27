use Rattle.std.proofs.Common.{arith}
use Rattle.ick_chain.proofs.Ranking.{numbers_all, numbers_next}
use Rattle.ick_chain.proofs.ways.ranks.Goals as goal

pub nodes-preserved : goal.nodes-preserved
nodes-preserved c =
    numbers_next c.args.labels.now.of.items c.nodes.ranks.items c.add_rank.new.ranks.items _ c.nodes.at
    c.in_ok-add_rank.ensures (rw c.deref.ensures.value at c.label_at-breadth.ensures) c.nodes.invariant

pub returns : goal.returns
returns c =
    let stop = c.nodes-test.false in
    numbers_all c.args.labels.now.of.items c.nodes.ranks.items c.nodes.at (omega (arith, stop)) c.nodes.invariant
