use Rattle.std.proofs.Common.{◌≡◌, ◌++◌, ◌-◌, drop, length}
use Rattle.ick_chain.specs.Words.{word_of}
use Rattle.ick_chain.proofs.words.is_word.Given as goal

abbrev pub invariant-back : goal.invariant-back
invariant-back l = word_of l.words l.number ≡ word_of l.words l.at ++ drop (length l.choices - l.back) l.choices
