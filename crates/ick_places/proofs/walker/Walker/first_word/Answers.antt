use Rattle.std.proofs.Common.{arith}
use Rattle.ick_syntax.specs.declared.body.Gerund.TheVariants.{Calculating}
use Rattle.ick_source.specs.BodyGrammar.{all_gerunds}
use Rattle.ick_syntax.specs.Gerund.{gerund_word}
use Rattle.ick_places.proofs.WalkLemmas.{keeps_then}
use Rattle.ick_places.proofs.BodyWalks.{tried_none, tried_more, tried_found, tried_all, same_then}
use Rattle.ick_places.proofs.walker.Walker.first_word.Goals as goal

pub loop-gerund-init : goal.loop-gerund-init
loop-gerund-init c = tried_none gerund_word all_gerunds Calculating _

pub loop-gerund-preserved : goal.loop-gerund-preserved
loop-gerund-preserved c =
    let p = c.if-passes.ensures in
    tried_more gerund_word all_gerunds _ Calculating c.args.self.now c.loop-gerund.self c.passes.new.self _ c.loop-gerund.invariant c.word.ensures p.walks.keeps p.same p.passes

pub returns-then-passes-clause-keeps : goal.returns-then-passes-clause-keeps
returns-then-passes-clause-keeps c = keeps_then c.loop-gerund.invariant.keeps c.if-passes.ensures.walks.keeps

pub returns-then-passes-clause-finds : goal.returns-then-passes-clause-finds
returns-then-passes-clause-finds c =
    tried_found _ gerund_word all_gerunds _ Calculating c.args.self.now c.loop-gerund.self c.passes.new.self _ c.loop-gerund.invariant
    (let passed = c.loop-gerund-test.true in omega arith) c.word.ensures c.if-passes.ensures.passes

pub returns-then-passes-clause-same : goal.returns-then-passes-clause-same
returns-then-passes-clause-same c = same_then c.loop-gerund.invariant.same c.if-passes.ensures.same

pub returns : goal.returns
returns c = record {
  keeps = c.loop-gerund.invariant.keeps;
  finds = tried_all _ _ _ _ _ c.args.self.now c.loop-gerund.self c.loop-gerund.invariant (let passed = c.loop-gerund-test.false in omega arith);
  same = c.loop-gerund.invariant.same;
}
