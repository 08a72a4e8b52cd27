use Rattle.std.proofs.Common.{◌≡◌, ap, ◌∙◌, arith, length, vec_len}
use Rattle.ick_step.specs.Seen.{seen_at}
use Rattle.ick_step.proofs.MarkLaws.{later-none}
use Rattle.ick_step.proofs.Results.{at_err, noted_run, NotedRun}
use Rattle.ick_step.proofs.forward.run_noted.Given.{Over}
use Rattle.ick_step.proofs.forward.run_noted.Goals as goal
use Rattle.ick_step.proofs.forward.run_noted.Goals.{After-truncate}

pub returns-in_err-resize-clause-err : goal.returns-in_err-resize-clause-err
returns-in_err-resize-clause-err g c =
    let m = g.M.Backtrack.seen c.args.machine.now in
    at_err c.from_residual.result _
    (0, omega arith, ap (seen_at m) c.in_err-resize.ensures.items ∙ later-none (seen_at m c.args.answers.now.items))

-- what is noted of the run
noted : (g : Over) (c : After-truncate g) →
    let seen = g.M.Backtrack.seen in
    NotedRun c.run-ran.result (seen c.args.machine.now) (seen c.run-ran.new.self) c.args.answers.now.items
    c.truncate.new.self.items c.args.most
noted g c =
    let seen = g.M.Backtrack.seen in
    let v = c.args.answers.now in
    let size : vec_len v ≡ length v.items = omega (arith, v.ok.0) in
    let ran = c.run-ran.ensures in
    noted_run c.run-ran.result (seen c.args.machine.now) (seen c.run-ran.new.self) v.items
    c.resize.new.self.items c.truncate.new.self.items c.len-steps.result (vec_len v) c.args.most c.work-before.result
    c.work.result c.requires.kept ran.ok ran.within ran.err (c.len-steps.ensures ∙ size) size c.requires.few
    c.requires.some c.in_ok-resize.ensures.items c.work-before.ensures c.work.ensures c.truncate.ensures.items

pub returns-clause-kept : goal.returns-clause-kept
returns-clause-kept g c = (noted g (goal.at.returns-clause-kept g c).After-truncate).kept

pub returns-clause-ok : goal.returns-clause-ok
returns-clause-ok g c = (noted g (goal.at.returns-clause-ok g c).After-truncate).ok

pub returns-clause-err : goal.returns-clause-err
returns-clause-err g c = (noted g (goal.at.returns-clause-err g c).After-truncate).err
