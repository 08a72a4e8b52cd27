use Rattle.std.proofs.Common.{◌≡◌}
use Rattle.ick_engine.specs.Reads.{HasRead}
use Rattle.ick_runtime.specs.Inputs.{Leads}
use Rattle.ick_engine.proofs.tape.read_bytes.Given as goal

abbrev pub invariant-loop-at : goal.invariant-loop-at
invariant-loop-at g l = record {
  read : Leads g.R.Reader.Has l.initial.reader l.reader
      (HasRead l.stays l.at l.initial.last l.initial.to l.fn.elements l.elements l.last l.to);
  held : g.R.Reader.held l.reader ≡ g.R.Reader.held l.initial.reader;
}
