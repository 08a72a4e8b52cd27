use Rattle.std.proofs.Common.{◌≡◌, refl, ap, ◌∙◌, arith, length}
use Rattle.ick_step.specs.Seen.{seen_at, later}
use Rattle.ick_step.proofs.MarkLaws.{later-none}
use Rattle.ick_step.proofs.Results.{at_err, if_ok, on_err}
use Rattle.ick_step.proofs.forward.stretch.Goals as goal

pub returns-in_err-mark_if_due-clause-err : goal.returns-in_err-mark_if_due-clause-err
returns-in_err-mark_if_due-clause-err g c =
    let m = g.M.Backtrack.seen c.args.machine.now in
    let xs = c.args.answers.now.items in
    at_err c.from_residual.result _
    (0, omega arith, c.mark_if_due.ensures.seen xs ∙ later-none (seen_at m xs))

pub returns-clause-ok : goal.returns-clause-ok
returns-clause-ok g c =
    let same = c.in_ok-mark_if_due.ensures.seen c.args.answers.now.items in
    if_ok c.run_noted.result c.run_noted.ensures.ok (λ k is. is ∙ ap (later k) same)

pub returns-clause-err : goal.returns-clause-err
returns-clause-err g c =
    let same = c.in_ok-mark_if_due.ensures.seen c.args.answers.now.items in
    on_err c.run_noted.result c.run_noted.ensures.err
    (λ e. let le = e.1 in (e.0, omega (arith, le), e.2 ∙ ap (later e.0) same))

pub run_noted-requires : goal.run_noted-requires
run_noted-requires g c κs =
    let xs = c.args.answers.now.items in
    let marked = c.in_ok-mark_if_due.ensures in
    let size : length xs ≡ c.len-steps.result = omega (arith, c.args.answers.now.ok.0, c.len-steps.ensures) in
    let work = ap (λ s. s.work) (marked.seen xs) in
    let left = marked.room in
    let count = c.marks.ensures in
    let most = c.min.ensures in
    let room = c.requires.room in (
      (refl, tt),
      (
        marked.kept xs size c.requires.kept,
        (
          omega (arith, size, most, count, left),
          (
            omega (arith, left),
            omega (arith, work, most, room),
          ),
        ),
      ),
    )
