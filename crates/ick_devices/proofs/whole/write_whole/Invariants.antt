use Rattle.std.proofs.Common.{length, ◌-◌, ◌≡◌, ◌≤◌, ◌++◌, true, take}
use Rattle.ick_devices.proofs.whole.write_whole.Given as goal

abbrev pub invariant-loop-at : goal.invariant-loop-at
invariant-loop-at g l = record {
  within : l.at ≤ length l.text;
  count : g.W.ByteSink.failed l.sink ≡ g.W.ByteSink.failed l.fn.sink;
  so_far : g.W.ByteSink.told ≡ true
      → g.W.ByteSink.written l.sink ≡ g.W.ByteSink.written l.fn.sink ++ take l.at l.text;
}

abbrev pub decreases-loop-at : goal.decreases-loop-at
decreases-loop-at g l = length l.text - l.at
