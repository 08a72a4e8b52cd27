use Rattle.ick_inspect.specs.Text.{Adds}
use Rattle.std.specs.List.{flat_map, range_with_len}
use Rattle.ick_stages.specs.Traces.{piece_at}
use Rattle.ick_stages.proofs.trace.append_trace.Given as goal

abbrev pub invariant-loop-k : goal.invariant-loop-k
invariant-loop-k l = Adds l.fn.text l.text
    (flat_map (piece_at l.lowered l.candidate l.n l.fn.start) (range_with_len l.fn.start l.k))
