use Rattle.std.proofs.Common.{arith}
use Rattle.ick_source.specs.declared.verb.Verb.TheVariants.{Forget}
use Rattle.ick_source.specs.BodyGrammar.{all_verbs, verbs}
use Rattle.ick_source.specs.Verb.{verb_word}
use Rattle.ick_places.proofs.WalkLemmas.{keeps_then}
use Rattle.ick_places.proofs.BodyWalks.{tried_none, tried_more, tried_found, tried_all, same_then}
use Rattle.ick_places.proofs.walker.Walker.verb.Goals as goal

pub loop-verb-init : goal.loop-verb-init
loop-verb-init c = tried_none verb_word all_verbs Forget _

pub loop-verb-preserved : goal.loop-verb-preserved
loop-verb-preserved c =
    let p = c.if-passes.ensures in
    tried_more verb_word all_verbs _ Forget c.args.self.now c.loop-verb.self c.passes.new.self _ c.loop-verb.invariant c.word.ensures p.walks.keeps p.same p.passes

pub returns-then-passes-clause-keeps : goal.returns-then-passes-clause-keeps
returns-then-passes-clause-keeps c = keeps_then c.loop-verb.invariant.keeps c.if-passes.ensures.walks.keeps

pub returns-then-passes-clause-finds : goal.returns-then-passes-clause-finds
unfolding verbs
returns-then-passes-clause-finds c =
    tried_found _ verb_word all_verbs _ Forget c.args.self.now c.loop-verb.self c.passes.new.self _ c.loop-verb.invariant
    (let passed = c.loop-verb-test.true in omega arith) c.word.ensures c.if-passes.ensures.passes

pub returns-then-passes-clause-same : goal.returns-then-passes-clause-same
returns-then-passes-clause-same c = same_then c.loop-verb.invariant.same c.if-passes.ensures.same

pub returns : goal.returns
unfolding verbs
returns c = record {
  keeps = c.loop-verb.invariant.keeps;
  finds = tried_all _ _ _ _ _ c.args.self.now c.loop-verb.self c.loop-verb.invariant (let passed = c.loop-verb-test.false in omega arith);
  same = c.loop-verb.invariant.same;
}
