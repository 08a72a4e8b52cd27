use Rattle.std.proofs.Common.{◌-◌, false, length, arith}
use Rattle.std.proofs.lemmas.Bool.{eqb-true}
use Rattle.ick_chain.specs.Words.{word_of}
use Rattle.ick_chain.proofs.WordLaws.{word_back, word_end}
use Rattle.ick_chain.proofs.words.is_word.Goals as goal

pub back-preserved : goal.back-preserved
back-preserved c =
    let some = c.if-at-eq0.false in
    word_back c.args.words.now c.requires c.back.at (record { parent = 0; choice = false }) (omega (arith, some))
    c.if-at-words.false c.args.choices.now c.back.back c.back-test.true (c.is_same.ensures c.if-not-is_same.false)
    (word_of c.args.words.now c.args.number) c.back.invariant

pub returns : goal.returns
returns c =
    λ none. let stop = c.back-test.false in
    word_end c.args.words.now c.back.at c.args.choices.now (length c.args.choices.now - c.back.back)
    (word_of c.args.words.now c.args.number) (eqb-true c.back.at 0 none) (omega (arith, stop)) c.back.invariant
