use Rattle.std.proofs.Common.{◌≡◌, ℕ, ◌≤◌, Some, length, true}
use Rattle.std.specs.Prelude.{slice_get}
use Rattle.ick_stages.specs.Listed.{texts_seen}
use Rattle.ick_stages.specs.Starts.{IsPoint, Reaches, Starts}
use Rattle.ick_stages.proofs.ListedLaws.{WroteSeen}
use Rattle.ick_stages.proofs.listed.write_statements.Given as goal

abbrev pub invariant-loop-one : goal.invariant-loop-one
invariant-loop-one g l = record {
  failed : g.W.ByteSink.failed l.writer ≡ g.W.ByteSink.failed l.fn.writer;
  point : IsPoint l.source l.point;
  reaches : Reaches l.source (texts_seen l.seen) l.one-index l.point.at;
  many : length l.starts.items ≡ l.one-index;
  within : (n start : ℕ) → slice_get l.starts.items n ≡ Some start → start ≤ length l.source;
  each : (n start : ℕ) → slice_get l.starts.items n ≡ Some start → Starts l.source (texts_seen l.seen) n start;
  first : g.W.ByteSink.told ≡ true → WroteSeen l.source l.asked l.seen l.one-index
      (g.W.ByteSink.written l.fn.writer) (g.W.ByteSink.written l.writer);
}
