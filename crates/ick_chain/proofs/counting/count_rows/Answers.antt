use Rattle.ick_numbers.specs.Values.{naturals}
use Rattle.ick_chain.specs.Counts.{counts_of}
use Rattle.ick_chain.specs.Places.{states_in}
use Rattle.ick_chain.specs.Rows.{rows_of}
use Rattle.ick_chain.proofs.CountedRows.{are_counted}
use Rattle.ick_chain.proofs.LongNumbers.{if_ok}
use Rattle.ick_chain.proofs.counting.count_rows.Goals as goal

pub returns : goal.returns
returns g c =
    let answer = c.args.answer.now in
    let grades = c.in_ok-grading.grading.grades.items in
    if_ok _ _ c.count_each.result
    (λ counts all s begins. are_counted (g.P.States.text c.args.program.now)
    (states_in (g.P.States.seen c.args.program.now) answer.chain.states.items) s answer.chain.nodes.items grades
    (naturals c.in_ok-grading.grading.counts.items) (naturals c.in_ok-marks.marks.items) (rows_of c.args.rows.now)
    (rows_of c.in_ok-counted.counted.items) (rows_of c.in_ok-endless.endless.items) (counts_of counts.items)
    c.requires.full begins c.requires.solution.closed
    (rw c.deref.ensures.value at c.in_ok-grading.ensures.graded)
    (rw c.deref.ensures.value at c.in_ok-grading.ensures.counts)
    (rw c.deref-2.ensures.value at c.in_ok-marks.ensures)
    (rw (c.deref-3.ensures.value, c.deref-4.ensures.value, c.deref-5.ensures.value) at (c.in_ok-counted.ensures.rows s))
    (rw (c.deref-7.ensures.value, c.deref-8.ensures.value, c.deref-9.ensures.value) at (c.in_ok-endless.ensures.rows s))
    all)
    (rw (c.deref-11.ensures.value, c.deref-12.ensures.value) at c.count_each.ensures)
