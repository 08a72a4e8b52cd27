use Rattle.std.proofs.Common.{arith}
use Rattle.std.proofs.lemmas.List.{take_rest}
use Rattle.ick_bits.proofs.QuotedLemmas.{plain-more}
use Rattle.ick_bits.proofs.quoted.plain_length.Goals as goal

pub loop-count-preserved : goal.loop-count-preserved
loop-count-preserved c =
    let four =
    rw (take_rest c.args.rest.now c.loop-count.count) at
    (c.begins_with_four_plain.ensures c.if-begins_with_four_plain.true) in
    record {
      within = omega (arith, c.loop-count-test.true);
      plain = plain-more c.args.rest.now c.loop-count.count 4 c.loop-count.invariant.plain four;
    }
