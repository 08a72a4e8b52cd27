use Rattle.ick_chain.proofs.WordLaws.{AreRisenBelow}
use Rattle.ick_chain.proofs.words.are_words.Given as goal

abbrev pub invariant-words : goal.invariant-words
invariant-words l = AreRisenBelow l.words l.at
