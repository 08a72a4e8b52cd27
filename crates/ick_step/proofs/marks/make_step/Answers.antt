use Rattle.std.proofs.Common.{ap, arith}
use Rattle.std.specs.Prelude.{[]}
use Rattle.ick_code.specs.meaning.Move.{ask}
use Rattle.ick_step.proofs.HistoryLaws.{answer-going}
use Rattle.ick_step.proofs.MarkLaws.{answered_in, stepped_by, unchanged_by}
use Rattle.ick_step.proofs.Results.{at_err, on_ok, on_err}
use Rattle.ick_step.proofs.marks.make_step.Goals as goal

pub returns-in_err-mark_if_due-clause-err : goal.returns-in_err-mark_if_due-clause-err
returns-in_err-mark_if_due-clause-err g c =
    at_err c.from_residual.result _
    (λ answers size kept. (c.mark_if_due.ensures.kept answers size kept, c.mark_if_due.ensures.seen answers))

pub step-requires-clause-going : goal.step-requires-clause-going
step-requires-clause-going g c =
    let seen = g.M.Backtrack.seen in
    let m = seen c.args.machine.now in
    let n = seen c.mark_if_due.new.machine in
    answer-going (ask n.program n.state) c.args.answer
    (answered_in m n c.args.answer (c.mark_if_due.ensures.seen []) c.mark_if_due.ensures.state c.requires.answered)

pub step-requires-clause-room : goal.step-requires-clause-room
step-requires-clause-room g c =
    let same = ap (λ s. s.work) (c.mark_if_due.ensures.seen []) in
    let room = c.requires.room in
    omega (arith, same, room)

pub returns-clause-ok : goal.returns-clause-ok
returns-clause-ok g c =
    let seen = g.M.Backtrack.seen in
    let m = seen c.args.machine.now in
    let n = seen c.mark_if_due.new.machine in
    let t = seen c.step.new.self in
    let a = c.args.answer in
    let marked = c.in_ok-mark_if_due.ensures in
    let answered = answered_in m n a (marked.seen []) marked.state c.requires.answered in
    on_ok c.step.result c.step.ensures.ok
    (λ is answers size kept. stepped_by m n t answers a (marked.kept answers size kept) (marked.seen answers)
    c.is_done.result c.is_done.ensures is answered (omega (arith, size, marked.room)))

pub returns-clause-err : goal.returns-clause-err
returns-clause-err g c =
    let seen = g.M.Backtrack.seen in
    let n = seen c.mark_if_due.new.machine in
    let t = seen c.step.new.self in
    let marked = c.in_ok-mark_if_due.ensures in
    on_err c.step.result c.step.ensures.err
    (λ is answers size kept. unchanged_by (seen c.args.machine.now) n t answers is (marked.kept answers size kept)
    (marked.seen answers))
