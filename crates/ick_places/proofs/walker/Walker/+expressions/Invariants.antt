use Rattle.std.proofs.Common.{◌+◌, ◌*◌, length}
use Rattle.ick_places.specs.Expressions.{level_marks}
use Rattle.ick_places.specs.Walks.{left}
use Rattle.ick_places.proofs.RepeatedWalks.{Turns}
use Rattle.ick_source.specs.Expression.{level, further}
use Rattle.ick_places.proofs.walker.Walker.+expressions.Given as goal

abbrev pub decreases-expression : goal.decreases-expression
decreases-expression l = 8 * l.limit + 6

abbrev pub decreases-operand : goal.decreases-operand
decreases-operand l = 8 * l.limit + 5

abbrev pub decreases-group : goal.decreases-group
decreases-group l = 8 * l.below + 7

abbrev pub decreases-element : goal.decreases-element
decreases-element l = 8 * l.below + 9

abbrev pub decreases-indexing : goal.decreases-indexing
decreases-indexing l = 8 * l.below + 8

abbrev pub decreases-subscripts : goal.decreases-subscripts
decreases-subscripts l = 8 * l.below + 7

abbrev pub invariant-subscripts-more : goal.invariant-subscripts-more
invariant-subscripts-more l =
    Turns ((level l.below).operands l.delimiter) ((level_marks l.fn.self.text.now l.below).operands l.delimiter)
    (further l.delimiter) l.fn.self l.self

abbrev pub decreases-subscripts-more : goal.decreases-subscripts-more
decreases-subscripts-more l = length (left l.self)
