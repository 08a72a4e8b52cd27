use Rattle.std.proofs.Common.{◌≡◌, ◌+◌, drop}
use Rattle.ick_traces.specs.Traces.{way}
use Rattle.ick_stages.proofs.trace.way.Given as goal

abbrev pub invariant-loop-i : goal.invariant-loop-i
invariant-loop-i l = record {
  count : l.count ≡ l.i-index;
  way : way l.code ≡ l.count + way (drop l.i-index l.code);
}
