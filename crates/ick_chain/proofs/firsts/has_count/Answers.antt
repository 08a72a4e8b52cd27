use Rattle.std.proofs.Common.{sym, ◌∙◌}
use Rattle.ick_chain.proofs.FirstLaws.{counts_all, counts_more, uncounted}
use Rattle.ick_chain.proofs.firsts.has_count.Goals as goal

pub counts-preserved : goal.counts-preserved
counts-preserved c =
    counts_more c.args.counts.now c.counts.at c.index-counts-at.result c.counts-test.true c.index-counts-at.is
    (uncounted c.index-counts-at.result (sym c.is_some.ensures ∙ c.if-is_some.false)) c.counts.invariant

pub returns : goal.returns
returns c = λ _. counts_all c.args.counts.now c.counts.at c.counts-test.false c.counts.invariant
