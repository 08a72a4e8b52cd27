use Rattle.std.proofs.Common.{◌≡◌, ◌≤◌, ◌+◌, get_or, refl, sym, subst, arith}
use Rattle.ick_code.specs.declared.op.Op.TheVariants.{Constant}
use Rattle.ick_code.proofs.CountLemmas.{Counted, step_count, more_counted}
use Rattle.ick_code.proofs.counts.most_operands.Goals as goal

pub loop-op-preserved : goal.loop-op-preserved
loop-op-preserved c =
    let ops = c.args.ops.now in
    let i = c.loop-op.op-index in
    let n = c.loop-op.count in
    let next = c.saturating_sub.result + c.pushed.result in
    let now : next ≡ step_count (get_or ops i (Constant 0)) n =
    omega (arith, c.pushed.ensures.count, c.popped.ensures, c.saturating_sub.ensures) in
    let more : next ≤ n + 1 = omega (arith, c.pushed.ensures.few, c.saturating_sub.ensures) in
    subst (Counted ops (i + 1) next) (sym c.max-most.ensures)
    (more_counted ops i n next c.loop-op.most (get_or ops i (Constant 0)) (Constant 0) c.loop-op-test.true refl
    c.loop-op.invariant now more)
