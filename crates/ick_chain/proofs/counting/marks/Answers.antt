use Rattle.std.proofs.Common.{None, arith}
use Rattle.ick_chain.proofs.CountedRows.{are_marks, marks_long, marks_more}
use Rattle.ick_chain.proofs.counting.marks.Goals as goal

pub nodes-preserved : goal.nodes-preserved
nodes-preserved c = record {
  long = marks_long c.nodes.marks.items c.push.new.self.items c.in_ok-number.number c.nodes.at c.nodes.invariant.long
      c.in_ok-push.ensures.items;
  each = marks_more c.args.grades.now c.nodes.marks.items c.push.new.self.items c.nodes.at None c.in_ok-number.number
      c.nodes.invariant.long c.in_ok-number.ensures c.in_ok-push.ensures.items c.nodes.invariant.each;
}

pub returns : goal.returns
returns c =
    let long = c.nodes.invariant.long in
    let stop = c.nodes-test.false in
    let within = c.nodes.auto.at-end in
    are_marks c.args.grades.now c.nodes.marks.items c.nodes.at (omega (arith, stop, within)) long c.nodes.invariant.each
