use Rattle.std.proofs.Common.{arith, ap, length}
use Rattle.ick_bits.proofs.AppendingLemmas.{on-err}
use Rattle.ick_bits.proofs.QuotedLemmas.{length-escaped}
use Rattle.ick_bits.proofs.quoted.push_stretch.Goals as goal

pub returns-in_err-extend_from_slice-clause-full : goal.returns-in_err-extend_from_slice-clause-full
returns-in_err-extend_from_slice-clause-full c =
    let full = c.in_err-extend_from_slice.ensures.full in
    let whole = length-escaped c.args.rest.now c.plain_length-plain.result in
    let front = ap length c.plain_length-plain.ensures.plain in
    on-err c.from_residual-in_err-extend_from_slice.result (omega (arith, full, whole, front))
