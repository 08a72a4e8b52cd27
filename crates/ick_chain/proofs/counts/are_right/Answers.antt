use Rattle.std.proofs.Common.{arith}
use Rattle.ick_chain.proofs.Handing.{dot_graded}
use Rattle.ick_chain.proofs.counts.are_right.Goals as goal

pub returns : goal.returns
returns c = λ _ u v.
    let stop = c.counts-test.false in
    dot_graded u c.args.grades.now c.args.sums.now c.args.counts.now c.requires.sums c.requires.grades
    (λ i d lt. c.counts.invariant i d (omega (arith, lt, stop))) v
