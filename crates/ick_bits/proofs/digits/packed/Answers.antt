use Rattle.std.proofs.Common.{◌≡◌, ◌<◌, ◌≤◌, ◌+◌, ◌*◌, ◌^◌, suc, arith, bit_or, get_or, lit<, ap}
use Rattle.std.proofs.Math.Nat.{pow-le-pow_right, pow-suc}
use Rattle.ick_bits.proofs.PackedLemmas.{or-byte, packed-more}
use Rattle.ick_bits.proofs.digits.packed.Goals as goal

pub loop-byte-preserved : goal.loop-byte-preserved
loop-byte-preserved c =
    let byte : c.from.result < 256 =
    rw c.from.ensures
    (or-byte (get_or c.args.word.now c.loop-byte.byte-index 0) (omega (arith, c.type_inv.word c.loop-byte.byte-index))) in
    let more : c.loop-byte.byte-index + 1 + 1 ≡ suc (c.loop-byte.byte-index + 1) = omega arith in
    record {
      value =
          rw (c.from.ensures, packed-more c.args.word.now c.loop-byte.byte-index c.loop-byte-test.true)
          (ap (λ n. n * 256 + bit_or (get_or c.args.word.now c.loop-byte.byte-index 0) 32) c.loop-byte.invariant.value);
      bound =
          rw (more, pow-suc 256 (c.loop-byte.byte-index + 1))
          (omega (arith, byte, c.loop-byte.invariant.bound));
    }

pub overflow_mul-packed : goal.overflow_mul-packed
overflow_mul-packed c =
    let short : c.loop-byte.byte-index + 1 ≤ 5 = omega (arith, c.requires, c.loop-byte-test.true) in
    let bound : 256 ^ (c.loop-byte.byte-index + 1) ≤ 256 ^ 5 = pow-le-pow_right (lit< tt) short in
    omega (arith, bound, c.loop-byte.invariant.bound)

pub overflow_add-packed : goal.overflow_add-packed
overflow_add-packed c =
    let byte : c.from.result < 256 =
    rw c.from.ensures
    (or-byte (get_or c.args.word.now c.loop-byte.byte-index 0) (omega (arith, c.type_inv.word c.loop-byte.byte-index))) in
    let short : c.loop-byte.byte-index + 1 ≤ 5 = omega (arith, c.requires, c.loop-byte-test.true) in
    let bound : 256 ^ (c.loop-byte.byte-index + 1) ≤ 256 ^ 5 = pow-le-pow_right (lit< tt) short in
    omega (arith, byte, bound, c.loop-byte.invariant.bound)
