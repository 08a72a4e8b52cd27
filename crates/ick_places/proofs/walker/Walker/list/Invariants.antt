use Rattle.std.proofs.Common.{length}
use Rattle.ick_source.specs.Grammar.{separator}
use Rattle.ick_places.specs.Bodies.{kind_of}
use Rattle.ick_places.specs.Walks.{left}
use Rattle.ick_places.proofs.RepeatedWalks.{Turns}
use Rattle.ick_places.proofs.walker.Walker.list.Given as goal

abbrev pub invariant-more : goal.invariant-more
invariant-more l =
    Turns (kind_of l.member).grammar ((kind_of l.member).marks l.fn.self.text.now) (separator l.separator) l.fn.self l.self

abbrev pub decreases-more : goal.decreases-more
decreases-more l = length (left l.self)
