use Rattle.std.proofs.Common.{◌+◌, arith, length, refl}
use Rattle.std.proofs.lemmas.Option.{slice_get-get_or}
use Rattle.ick_stages.specs.Listed.{AreFaults, AreSomeFaults, HasFault, fault_more}
use Rattle.ick_stages.proofs.LineLaws.{piece_failed}
use Rattle.ick_stages.proofs.ListedLaws.{faults_more, faults_none}
use Rattle.ick_stages.proofs.listed.write_faults.Goals as goal

pub loop-fault-init : goal.loop-fault-init
loop-fault-init g c = record { failed = refl; first = λ told. faults_none _ _ _ _ }

pub returns-in-Err-clause-written : goal.returns-in-Err-clause-written
returns-in-Err-clause-written g c = λ told.
    let first = c.loop-fault.invariant.first told in
    let k = c.loop-fault.fault-index in
    piece_failed (Unit {0}) (Unit {0}) (HasFault c.args.source.now c.args.seen.now _)
    (AreFaults c.args.source.now c.args.seen.now c.args.faults.now (length c.args.faults.now))
    (AreSomeFaults c.args.source.now c.args.seen.now c.args.faults.now) _ _ _ first.lines c.in-Err.refused first.written
    (k, first.are)
    (λ piece has. (k + 1, fault_more first.are (slice_get-get_or c.args.faults.now k _ c.loop-fault-test.true) has))
    (c.in-Err.ensures.written told)

pub loop-fault-preserved : goal.loop-fault-preserved
loop-fault-preserved g c =
    let before = c.loop-fault.invariant in
    record {
      failed = omega (arith, c.in-Ok.ensures.count, before.failed);
      first = λ told.
          let wrote = c.in-Ok.ensures.written told in
          faults_more wrote.0 (before.first told)
          (slice_get-get_or c.args.faults.now c.loop-fault.fault-index _ c.loop-fault-test.true) wrote.1 wrote.2;
    }
