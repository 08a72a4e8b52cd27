use Rattle.std.proofs.Common.{◌∙◌, ap, arith, get_or, sym}
use Rattle.ick_inspect.specs.Positions.{position_behind}
use Rattle.ick_inspect.proofs.PositionLemmas.{column_bound, line_bound, position_more}
use Rattle.ick_inspect.proofs.positions.moved.Goals as goal

pub behind-position-requires-clause-line : goal.behind-position-requires-clause-line
behind-position-requires-clause-line c =
    let bound = line_bound c.args.source.now c.loop-at.at (omega arith) in
    omega (arith, ap (λ p. p.line) c.loop-at.invariant)

pub behind-position-requires-clause-column : goal.behind-position-requires-clause-column
behind-position-requires-clause-column c =
    let bound = column_bound c.args.source.now c.loop-at.at (omega arith) in
    omega (arith, ap (λ p. p.column) c.loop-at.invariant)

pub loop-at-preserved : goal.loop-at-preserved
loop-at-preserved c =
    c.behind-position.ensures
    ∙ (ap (λ p. position_behind p (get_or c.args.source.now c.loop-at.at 0)) c.loop-at.invariant
    ∙ sym (position_more c.args.source.now c.loop-at.at (omega arith)))
