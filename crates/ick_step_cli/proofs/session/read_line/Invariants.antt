use Rattle.std.proofs.Common.{◌≡◌, ◌++◌, true}
use Rattle.ick_step_cli.specs.Left.{goes_on}
use Rattle.ick_step_cli.proofs.session.read_line.Given as goal

abbrev pub invariant-loop-at : goal.invariant-loop-at
invariant-loop-at g l = record {
  count : g.R.ByteSource.failed l.reader ≡ g.R.ByteSource.failed l.initial.reader;
  line : goes_on l.line.items ≡ true;
  left : g.R.ByteSource.told ≡ true →
      g.R.ByteSource.left l.initial.reader ≡ l.line.items ++ g.R.ByteSource.left l.reader;
}
