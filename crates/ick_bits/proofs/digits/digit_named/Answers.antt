use Rattle.std.proofs.Common.{sym, ◌∙◌, ap, map, arith}
use Rattle.ick_bits.proofs.PackedLemmas.{digit_packed, digit-packed, digit-long, packed-past, packed-here}
use Rattle.ick_bits.proofs.PackedLemmas.{packed-nowhere, packed_row}
use Rattle.ick_bits.specs.Digits.{names}
use Rattle.ick_bits.proofs.digits.digit_named.Goals as goal

pub loop-name-init : goal.loop-name-init
loop-name-init c =
    digit-packed c.args.word.now (λ k. omega (arith, c.type_inv.word k))
    ∙ ap (λ n. digit_packed n (map packed_row names)) (sym c.packed-packed.ensures)

pub loop-name-preserved : goal.loop-name-preserved
loop-name-preserved c =
    c.loop-name.invariant
    ∙ packed-past c.packed-packed.result _ c.loop-name.name-index c.loop-name-test.true c.if-name-packed.false

pub returns-then-name-packed-clause-value : goal.returns-then-name-packed-clause-value
returns-then-name-packed-clause-value c =
    sym (c.loop-name.invariant ∙ packed-here c.packed-packed.result _ c.loop-name.name-index c.loop-name-test.true
    c.if-name-packed.true)

pub returns-then-word-gt-LONGEST-clause-value : goal.returns-then-word-gt-LONGEST-clause-value
returns-then-word-gt-LONGEST-clause-value c = sym (digit-long c.args.word.now c.if-word-gt-LONGEST.true)

pub returns-clause-value : goal.returns-clause-value
returns-clause-value c =
    sym (c.loop-name.invariant ∙ packed-nowhere c.packed-packed.result _ c.loop-name.name-index c.loop-name-test.false)
