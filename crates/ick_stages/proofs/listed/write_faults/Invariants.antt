use Rattle.std.proofs.Common.{◌≡◌, true}
use Rattle.ick_stages.proofs.ListedLaws.{WroteFaults}
use Rattle.ick_stages.proofs.listed.write_faults.Given as goal

abbrev pub invariant-loop-fault : goal.invariant-loop-fault
invariant-loop-fault g l = record {
  failed : g.W.ByteSink.failed l.writer ≡ g.W.ByteSink.failed l.fn.writer;
  first : g.W.ByteSink.told ≡ true → WroteFaults l.source l.seen l.faults l.fault-index
      (g.W.ByteSink.written l.fn.writer) (g.W.ByteSink.written l.writer);
}
