use Rattle.std.proofs.Common.{◌+◌, subst, sym}
use Rattle.ick_bits.specs.declared.faults.FaultKind.TheVariants.{Unrecognised}
use Rattle.ick_source.specs.AllFaults.{AreFaultsUpTo}
use Rattle.ick_source.proofs.AllFaultLemmas.{kind_ranked}
use Rattle.ick_source.proofs.all_faults.all_faults.Goals as goal

pub loop-kind-preserved : goal.loop-kind-preserved
loop-kind-preserved c = λ trees s.
    let e = kind_ranked Unrecognised c.loop-kind.kind-index c.loop-kind-test.true in
    subst (λ r. AreFaultsUpTo trees (r + 1) 0 c.append_kind.new.faults.items) e
    (c.in_ok-append_kind.ensures trees s
    (subst (λ r. AreFaultsUpTo trees r 0 c.loop-kind.faults.items) (sym e) (c.loop-kind.invariant trees s)))
