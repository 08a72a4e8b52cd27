use Rattle.std.proofs.Common.{◌+◌, ap, ◌∙◌, arith}
use Rattle.ick_step.specs.Seen.{seen_at, later}
use Rattle.ick_step.proofs.MarkLaws.{later-later}
use Rattle.ick_step.proofs.Results.{at_err}
use Rattle.ick_step.proofs.forward.go_on.Goals as goal

pub returns-in_err-more-clause-err : goal.returns-in_err-more-clause-err
returns-in_err-more-clause-err g c =
    let s = seen_at (g.M.Backtrack.seen c.args.machine.now) c.args.answers.now.items in
    let made = c.steps.made in
    let e = c.in_err-more.ensures.err in
    let le = e.1 in
    let lt = c.steps-test.true in
    at_err c.from_residual.result _
    (made + e.0, omega (arith, le, lt), e.2 ∙ (ap (later e.0) c.steps.invariant.made ∙ later-later s made e.0))

pub steps-preserved : goal.steps-preserved
steps-preserved g c =
    let s = seen_at (g.M.Backtrack.seen c.args.machine.now) c.args.answers.now.items in
    let made = c.steps.made in
    let more = c.in_ok-more.more in
    let new = c.in_ok-more.ensures in
    let le = new.within in
    let lt = c.steps-test.true in
    record {
      within = omega (arith, le, lt);
      kept = new.kept;
      made = new.ok ∙ (ap (later more) c.steps.invariant.made ∙ later-later s made more);
    }
