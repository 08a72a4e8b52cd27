use Rattle.std.proofs.Common.{arith, length, ap, length-append, take, sym, ◌∙◌}
use Rattle.std.specs.List.{flat_map}
use Rattle.ick_bits.proofs.AppendingLemmas.{pieces-fit, err-gives}
use Rattle.ick_bits.proofs.appending.append_all.Goals as goal

pub returns-then-is_err-clause-full : goal.returns-then-is_err-clause-full
returns-then-is_err-clause-full c =
    let items = ap length c.loop-piece.invariant.items in
    let before =
    length-append c.args.out.now.items (flat_map (λ p. p.now) (take c.loop-piece.piece-index c.args.pieces.now)) in
    let part = pieces-fit c.args.pieces.now c.loop-piece.piece-index c.loop-piece-test.true in
    let full =
    err-gives c.extend_from_slice.result (sym c.is_err.ensures.value ∙ c.if-is_err.true)
    c.extend_from_slice.ensures.full in
    omega (arith, full, part, items, before)
