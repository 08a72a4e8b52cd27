use Rattle.ick_source.specs.declared.verb.Verb.TheVariants.{Forget}
use Rattle.ick_source.specs.Verb.{verb_word}
use Rattle.ick_places.proofs.BodyWalks.{Tried}
use Rattle.ick_places.proofs.walker.Walker.verb.Given as goal

abbrev pub invariant-loop-verb : goal.invariant-loop-verb
invariant-loop-verb l = Tried verb_word l.verb-items l.verb-index Forget l.fn.self l.self
