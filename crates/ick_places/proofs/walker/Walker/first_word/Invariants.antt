use Rattle.ick_syntax.specs.declared.body.Gerund.TheVariants.{Calculating}
use Rattle.ick_syntax.specs.Gerund.{gerund_word}
use Rattle.ick_places.proofs.BodyWalks.{Tried}
use Rattle.ick_places.proofs.walker.Walker.first_word.Given as goal

abbrev pub invariant-loop-gerund : goal.invariant-loop-gerund
invariant-loop-gerund l = Tried gerund_word l.gerund-items l.gerund-index Calculating l.fn.self l.self
