use Rattle.std.proofs.Common.{◌≡◌, ap, ◌++◌}
use Rattle.ick_stages.specs.Faults.{last_line}
use Rattle.ick_stages.specs.Listed.{AreAllFaults, AreSomeEnd, AreSomeFaults, IsEnd, some_faults, whole_end, whole_faults}
use Rattle.ick_stages.proofs.LineLaws.{failed_first, last_piece}
use Rattle.ick_stages.proofs.listed.write_end.Goals as goal

pub returns-in-Ok-clause-written : goal.returns-in-Ok-clause-written
returns-in-Ok-clause-written g c = λ told.
    let a = c.args in
    let first = c.in-Ok.ensures.written told in
    last_piece _ (λ piece. piece ≡ last_line a.faults.now) (IsEnd a.source.now a.seen.now a.faults.now a.asked)
    (AreSomeEnd a.source.now a.seen.now a.faults.now a.asked) _ _ _ first.0 c.write_last.result first.2
    (whole_faults first.0 first.1)
    (λ piece is. record { lines = first.0; are = first.1; text_is = ap (λ l. first.0 ++ l) is })
    (λ piece is. whole_end (first.0 ++ piece)
    (record { lines = first.0; are = first.1; text_is = ap (λ l. first.0 ++ l) is }))
    (c.write_last.ensures.written told)

pub returns-in-Err-clause-written : goal.returns-in-Err-clause-written
returns-in-Err-clause-written g c = λ told.
    let a = c.args in
    failed_first (Unit {0}) (Unit {0}) (AreAllFaults a.source.now a.seen.now a.faults.now a.asked)
    (AreSomeFaults a.source.now a.seen.now a.faults.now) (IsEnd a.source.now a.seen.now a.faults.now a.asked)
    (AreSomeEnd a.source.now a.seen.now a.faults.now a.asked) _ _ c.in-Err.refused
    (λ lines some. some_faults some.0 lines some.1) (c.in-Err.ensures.written told)
