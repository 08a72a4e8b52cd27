use Rattle.std.proofs.Common.{◌≡◌, ◌++◌}
use Rattle.ick_chain.proofs.LineTexts.{IsMaking}
use Rattle.ick_chain.proofs.line.make_lines.Given as goal

abbrev pub invariant-rows : goal.invariant-rows
invariant-rows l = record {
  parts : l.fn.rows.items ≡ l.yielded ++ l.row-iterator.rest.items;
  made : IsMaking l.fn.rows.items l.counts l.shown l.first l.yielded l.lines.items;
}
