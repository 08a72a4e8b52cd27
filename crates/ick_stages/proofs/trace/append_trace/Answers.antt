use Rattle.std.proofs.Common.{◌+◌, ap, sym}
use Rattle.std.specs.Prelude.{slice_get}
use Rattle.ick_inspect.proofs.AddLaws.{same, then}
use Rattle.ick_stages.specs.Traces.{piece_at, piece_by}
use Rattle.ick_stages.proofs.TraceLaws.{pieces_next}
use Rattle.ick_stages.proofs.trace.append_trace.Goals as goal

pub loop-k-preserved : goal.loop-k-preserved
loop-k-preserved c =
    let t = c.args.candidate.now in
    let at = c.args.start + c.loop-k.k in
    same (sym (pieces_next (piece_at c.args.lowered.now t c.args.n c.args.start) c.args.start c.loop-k.k))
    (then c.loop-k.invariant
    (same (ap (λ p. piece_by c.args.lowered.now t p (slice_get t.traces.code.items at) (slice_get t.origins.items at))
    c.in_ok-come.ensures) c.in_ok-append_piece.ensures))
