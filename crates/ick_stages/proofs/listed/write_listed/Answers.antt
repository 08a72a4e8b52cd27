use Rattle.std.proofs.Common.{length, refl}
use Rattle.ick_stages.specs.Listed.{AreSeen, AreSome, AreSomeSeen, AreSomeEnd, HasListed, IsEnd, some_end, some_seen}
use Rattle.ick_stages.proofs.LineLaws.{failed_first, lines_behind}
use Rattle.ick_stages.proofs.listed.write_listed.Goals as goal

pub returns-in-Ok-clause-written : goal.returns-in-Ok-clause-written
returns-in-Ok-clause-written g c = λ told.
    let a = c.args in
    let first = c.in-Ok.ensures.written told in
    lines_behind _ (IsEnd a.source.now a.seen.now a.faults.now a.asked.now.places)
    (AreSomeEnd a.source.now a.seen.now a.faults.now a.asked.now.places)
    (HasListed a.source.now a.seen.now a.faults.now a.asked.now)
    (AreSome a.source.now a.seen.now a.faults.now a.asked.now) _ _ _ first.0 c.write_end.result first.2
    (λ end ends. record { lines = first.0; are = first.1; end = end; ends = ends; text_is = refl })
    (λ end some. some_end first.0 end first.1 some)
    (c.write_end.ensures.written told)

pub returns-clause-written : goal.returns-clause-written
returns-clause-written g c = λ told.
    let a = c.args in
    failed_first (Unit {0}) (Unit {0}) (AreSeen a.source.now a.asked.now a.seen.now (length a.seen.now))
    (AreSomeSeen a.source.now a.asked.now a.seen.now) (HasListed a.source.now a.seen.now a.faults.now a.asked.now)
    (AreSome a.source.now a.seen.now a.faults.now a.asked.now) _ _ c.in-Err.refused
    (λ lines some. some_seen some.0 lines some.1) (c.in-Err.ensures.written told)
