use Rattle.std.proofs.Common.{sym, ◌++◌}
use Rattle.std.specs.Prelude.{codes, decimal}
use Rattle.ick_inspect.proofs.AddLaws.{pieces_taken, same, then}
use Rattle.ick_stages.proofs.trace.append_addresses.Goals as goal

pub loop-address-preserved : goal.loop-address-preserved
loop-address-preserved c =
    same (sym (pieces_taken (λ a. codes " " ++ decimal a) c.args.pending.now c.loop-address.address-index _
    c.loop-address-test.true))
    (then c.loop-address.invariant (then c.push.ensures c.push_decimal.ensures))
