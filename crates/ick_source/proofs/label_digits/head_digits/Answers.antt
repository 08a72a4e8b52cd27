use Rattle.std.proofs.Common.{arith}
use Rattle.ick_source.proofs.UsedLabelLemmas.{head_some}
use Rattle.ick_source.proofs.label_digits.head_digits.Goals as goal

pub returns : goal.returns
returns c = λ to label polite o.
    let e = c.if-byte_at-ne40.false in
    let v = c.byte_at.ensures.value in
    head_some c.significant_at.result (omega (arith, e, v)) c.after_white.ensures.gap c.significant_at.ensures o
