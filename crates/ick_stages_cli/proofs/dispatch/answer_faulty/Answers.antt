use Rattle.std.proofs.Common.{◌≡◌, arith, subst, sym, []}
use Rattle.std.specs.Prelude.{Err}
use Rattle.ick_bits.specs.Faults.{message_of}
use Rattle.ick_job.specs.JobEnd.{LeavesWriter}
use Rattle.ick_source.specs.declared.refusals.Refusal.TheVariants.{Fault}
use Rattle.ick_stages.specs.Listed.{AreSome, HasListed, some_end, whole_end}
use Rattle.ick_stages_cli.specs.Tool.{IsListedAnswer, refused}
use Rattle.ick_stages_cli.proofs.Giving.{gives_failed, gives_message, leaves_refused, leaves_written}
use Rattle.ick_stages_cli.proofs.dispatch.answer_faulty.Goals as goal

pub returns-in-Ok-clause-leaves : goal.returns-in-Ok-clause-leaves
returns-in-Ok-clause-leaves g c =
    let same : g.W.ByteSink.failed c.args.writer.now ≡ g.W.ByteSink.failed c.write_listed.new.writer =
    omega (arith, c.in-Ok.ensures.count) in
    subst (λ w. LeavesWriter c.refused.result (g.W.ByteSink.failed c.args.writer.now) w) same
    (leaves_refused (Fault c.args.fault.kind c.args.fault.number) c.refused.result _ _ _ c.refused.ensures)

pub returns-in-Ok-clause-gives : goal.returns-in-Ok-clause-gives
returns-in-Ok-clause-gives g c = λ told.
    let a = c.args in
    let written = c.in-Ok.ensures.written told in
    let has = written.1 in
    gives_message (IsListedAnswer a.asked.now a.source.now a.seen.now a.faults.now)
    (AreSome a.source.now a.seen.now a.faults.now a.asked.now) 2 (message_of a.fault.kind a.fault.number []) written.0
    c.refused.result _ _ c.refused.ensures
    (refused written.0 a.fault c.requires.faulty.0 c.requires.faulty.1 has)
    (subst (λ text. AreSome a.source.now a.seen.now a.faults.now a.asked.now text) (sym has.text_is)
    (some_end has.lines has.end has.are (whole_end has.end has.ends))) written.2

pub returns-in-Err-clause-leaves : goal.returns-in-Err-clause-leaves
returns-in-Err-clause-leaves g c =
    leaves_written {T = Unit {0}} (Err c.in-Err.failed) c.end_of.result _ _ c.end_of.ensures c.in-Err.ensures.count

pub returns-in-Err-clause-gives : goal.returns-in-Err-clause-gives
returns-in-Err-clause-gives g c = λ told.
    let a = c.args in
    gives_failed (Unit {0}) (IsListedAnswer a.asked.now a.source.now a.seen.now a.faults.now)
    (HasListed a.source.now a.seen.now a.faults.now a.asked.now)
    (AreSome a.source.now a.seen.now a.faults.now a.asked.now) _ _ c.in-Err.failed c.end_of.result c.end_of.ensures
    (c.in-Err.ensures.written told)
