use Rattle.std.proofs.Common.{length, ◌-◌, ◌≡◌, ◌≤◌, ◌++◌, true}
use Rattle.ick_devices.proofs.whole.read_first.Given as goal

abbrev pub invariant-loop-block : goal.invariant-loop-block
invariant-loop-block g l = record {
  room : length l.block ≡ 4096;
  within : length l.text.items ≤ l.most;
  count : g.R.ByteSource.failed l.source ≡ g.R.ByteSource.failed l.fn.source;
  so_far : g.R.ByteSource.told ≡ true
      → g.R.ByteSource.left l.fn.source ≡ l.text.items ++ g.R.ByteSource.left l.source;
}

abbrev pub decreases-loop-block : goal.decreases-loop-block
decreases-loop-block g l = l.most - length l.text.items
