use Rattle.std.proofs.Common.{◌+◌, ◌*◌, ◌≤◌, length}
use Rattle.ick_source.specs.Cursors.{left, Along}
use Rattle.ick_source.specs.Expression.{level, further}
use Rattle.ick_source.proofs.RepeatedReadings.{Repeats}
use Rattle.ick_source.proofs.cursor.Cursor.+expressions.Given as goal

abbrev pub decreases-expression : goal.decreases-expression
decreases-expression l = 8 * l.limit + 6

abbrev pub decreases-operand : goal.decreases-operand
decreases-operand l = 8 * l.limit + 5

abbrev pub decreases-group : goal.decreases-group
decreases-group l = 8 * l.below + 7

abbrev pub decreases-element : goal.decreases-element
decreases-element l = 8 * l.below + 9

abbrev pub decreases-indexing : goal.decreases-indexing
decreases-indexing l = 8 * l.below + 8

abbrev pub decreases-subscripts : goal.decreases-subscripts
decreases-subscripts l = 8 * l.below + 7

abbrev pub invariant-subscripts-more : goal.invariant-subscripts-more
invariant-subscripts-more l =
    (l.height ≤ l.below)
    × Repeats ((level l.below).operands l.delimiter) (further l.delimiter) l.fn.self l.self (Along l.value.items l.height)

abbrev pub decreases-subscripts-more : goal.decreases-subscripts-more
decreases-subscripts-more l = length (left l.self)
