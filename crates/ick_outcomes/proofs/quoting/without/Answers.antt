use Rattle.std.proofs.Common.{arith}
use Rattle.ick_outcomes.proofs.QuotingLaws.{one_less, all_less}
use Rattle.ick_outcomes.proofs.quoting.without.Goals as goal

pub overflow_sub-kept : goal.overflow_sub-kept
overflow_sub-kept c =
    (one_less c.args.bytes.now c.bytes.byte-index _ c.bytes.kept c.args.from _ c.bytes-test.true c.requires
    c.bytes.invariant c.escaped_length-kept.ensures).0

pub bytes-preserved : goal.bytes-preserved
bytes-preserved c =
    (one_less c.args.bytes.now c.bytes.byte-index _ c.bytes.kept c.args.from _ c.bytes-test.true c.requires
    c.bytes.invariant c.escaped_length-kept.ensures).1

pub returns : goal.returns
returns c =
    let stop = c.bytes-test.false in
    all_less c.args.bytes.now c.bytes.byte-index c.bytes.kept c.args.from (omega (arith, stop)) c.bytes.invariant
