use Rattle.std.proofs.Common.{length, map}
use Rattle.ick_source.specs.Cursors.{left, Clamps, listed}
use Rattle.ick_source.specs.Grammar.{separator}
use Rattle.ick_source.proofs.RepeatedReadings.{Repeats}
use Rattle.ick_source.proofs.cursor.Cursor.list.Given as goal

abbrev pub invariant-more : goal.invariant-more
invariant-more g l =
    Repeats g.P.BodyPart.kind.grammar (separator l.separator) l.fn.self l.self
    (Clamps (listed g.P.BodyPart.kind.clamping) (map g.P.BodyPart.seen l.parts.items))

abbrev pub decreases-more : goal.decreases-more
decreases-more g l = length (left l.self)
