use Rattle.std.proofs.Common.{arith}
use Rattle.ick_chain.proofs.WordLaws.{risen_next, words_risen}
use Rattle.ick_chain.proofs.words.are_words.Goals as goal

pub words-preserved : goal.words-preserved
words-preserved c =
    risen_next c.args.words.now c.words.at (c.is_risen.ensures c.if-not-is_risen.false) c.words.invariant

pub returns : goal.returns
returns c = λ _. let stop = c.words-test.false in words_risen c.args.words.now c.words.at (omega (arith, stop))
    c.words.invariant
