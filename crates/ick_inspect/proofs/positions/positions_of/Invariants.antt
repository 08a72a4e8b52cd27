use Rattle.std.proofs.Common.{◌≡◌, ◌≤◌, length}
use Rattle.ick_code.specs.Compiled.{code_program}
use Rattle.ick_inspect.specs.Positions.{position_in, texts_of}
use Rattle.ick_inspect.proofs.PositionLemmas.{Goes}
use Rattle.ick_inspect.proofs.positions.positions_of.Given as goal

abbrev pub invariant-loop-index : goal.invariant-loop-index
invariant-loop-index l = record {
  within : l.at ≤ length l.source;
  position : l.position ≡ position_in l.source l.at;
  goes : Goes l.source (texts_of (code_program l.code)) l.index l.at l.found.items;
}
