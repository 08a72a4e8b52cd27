use Rattle.std.proofs.Common.{◌∙◌, refl, arith}
use Rattle.ick_syntax.specs.declared.body.Gerund.TheVariants.{Calculating}
use Rattle.ick_source.specs.declared.wanted.Wanted.TheVariants.{Gerund}
use Rattle.ick_syntax.specs.Gerund.{gerund_word}
use Rattle.ick_source.specs.BodyGrammar.{all_gerunds, gerunds}
use Rattle.ick_source.proofs.CursorLemmas.{does_decided}
use Rattle.ick_source.proofs.PartReadings.{one_word, two_words}
use Rattle.ick_source.proofs.WordReadings.{passed, does_among, among_refused}
use Rattle.ick_source.proofs.part.GerundBodyPart.read.Goals as goal

pub loop-gerund-preserved : goal.loop-gerund-preserved
loop-gerund-preserved c =
    let e = c.if-eats.ensures in
    let before = c.loop-gerund.invariant in
    (e.1 ∙ before.0, passed gerund_word all_gerunds _ Calculating _ _ _ before.0 c.word.ensures e.0 before.1)

pub returns-in_default : goal.returns-in_default
unfolding gerunds
returns-in_default c =
    let before = c.loop-gerund.invariant in
    does_decided _ _ _ _ _ _ _
    (does_among Gerund gerund_word all_gerunds _ Calculating _ _ _ _ _ (let passed = c.loop-gerund-test.true in omega arith) before.0 c.word.ensures
    c.if-eats.ensures before.1 (record { same = refl; none = refl })) (λ u e. e)
    (one_word _ _ _ c.in_default.ensures)

pub returns-in-Some : goal.returns-in-Some
unfolding gerunds
returns-in-Some c =
    let before = c.loop-gerund.invariant in
    does_decided _ _ _ _ _ _ _
    (does_among Gerund gerund_word all_gerunds _ Calculating _ _ _ _ _ (let passed = c.loop-gerund-test.true in omega arith) before.0 c.word.ensures
    c.if-eats.ensures before.1 (record { same = refl; none = refl })) c.expect.ensures.stays
    (two_words _ _ _ _ _ c.in-Some.ensures c.expect.ensures)

pub returns : goal.returns
unfolding gerunds
returns c =
    let before = c.loop-gerund.invariant in
    does_decided _ _ _ _ _ Calculating _
    (among_refused Gerund gerund_word all_gerunds Calculating _ _ _ _ refl before.0 c.refuse.ensures
    (λ fine k low. let passed = c.loop-gerund-test.false in before.1 fine k (omega arith))) (λ u e. e)
    (one_word _ _ _ refl)
