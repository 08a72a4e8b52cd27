use Rattle.std.proofs.Common.{◌≡◌, true}
use Rattle.std.specs.List.{All}
use Rattle.ick_code.specs.Compiled.{code_program}
use Rattle.ick_lowering.specs.StatementDraft.{constants_of}
use Rattle.ick_lowering.specs.Lowering.{Passes, is_there}
use Rattle.ick_inspect.specs.Positions.{texts_of}
use Rattle.ick_stages.specs.Starts.{IsPoint, Reaches}
use Rattle.ick_stages.proofs.StagesLaws.{WroteFirst}
use Rattle.ick_stages.proofs.writing.write_stages.Given as goal

abbrev pub invariant-loop-at : goal.invariant-loop-at
invariant-loop-at g l = record {
  there : All (Passes (is_there l.ready.layout (constants_of l.work.draft))) l.work.draft.subscripts.items;
  count : g.W.ByteSink.failed l.writer ≡ g.W.ByteSink.failed l.fn.writer;
  point : IsPoint l.source l.point;
  reaches : Reaches l.source (texts_of (code_program l.code)) l.at l.point.at;
  first : g.W.ByteSink.told ≡ true → WroteFirst l.ready l.source l.asked (code_program l.code) l.at l.work.draft
      (g.W.ByteSink.written l.fn.writer) (g.W.ByteSink.written l.writer);
}
