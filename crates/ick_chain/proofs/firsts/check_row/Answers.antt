use Rattle.std.proofs.Common.{◌∙◌, arith}
use Rattle.ick_chain.proofs.FirstLaws.{row_soonest}
use Rattle.ick_chain.proofs.firsts.check_row.Goals as goal

pub returns-then-are_soonest : goal.returns-then-are_soonest
returns-then-are_soonest c = λ p ss s n full begins by _.
    let lt = c.if-at-len.false in
    let l = c.len.ensures in
    row_soonest p ss c.args.nodes.now c.args.numbered.now s c.args.at c.index-ranked.result.now c.args.row.now
    c.args.choices.now full begins by (omega (arith, lt, l)) c.index-ranked.ensures
    (c.is_row.ensures.yes c.if-is_row.true) (λ e. c.is_limit.ensures c.if-is_limit.false (c.as_slice.ensures ∙ e))
    (rw c.deref.ensures.value at (c.are_soonest.ensures c.if-are_soonest.true))
