use Rattle.ick_chain.specs.Counts.{counts_of}
use Rattle.ick_chain.specs.Lines.{lines_of}
use Rattle.ick_chain.specs.Rows.{rows_of}
use Rattle.ick_chain.specs.Shown.{choices_of}
use Rattle.ick_chain.proofs.LineLaws.{are_lines}
use Rattle.ick_chain.proofs.listing.sorted_lines.Goals as goal

pub returns : goal.returns
returns g c = λ s parts never steps weight begins exact are shown first.
    let counts = rw c.deref.ensures.value at c.in_ok-counts.ensures in
    let endless = rw (c.deref-2.ensures.value, c.deref-3.ensures.value) at c.in_ok-show_endless.ensures in
    let firsts = rw (c.deref-4.ensures.value, c.deref-5.ensures.value) at c.in_ok-check_firsts.ensures in
    let made = rw c.deref-6.ensures.value at c.in_ok-lines.ensures in
    are_lines (g.P.States.text c.args.program.now) s parts never steps weight (rows_of c.args.rows.items)
    (counts_of c.in_ok-counts.counts.items) (choices_of c.args.shown.now) (choices_of c.args.first.now)
    (lines_of c.in_ok-lines.lines.items) (lines_of c.sort_lines.new.lines.items) exact are (counts s begins)
    (endless s begins) shown first (firsts s begins) made c.in_ok-sort_lines.ensures
