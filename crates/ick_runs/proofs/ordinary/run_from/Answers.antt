use Rattle.std.proofs.Common.{◌≡◌, length, arith}
use Rattle.std.proofs.lemmas.Grind.{common_steps}
use Rattle.ick_runs.proofs.DriveLaws.{ran_stopped}
use Rattle.ick_runs.proofs.ordinary.run_from.Goals as goal

pub returns : goal.returns
returns g c =
    let seen = g.M.Backtrack.seen in
    let used = c.drive.new.choices.items in
    let count : c.len.result ≡ length used = grind (arith, common_steps) in
    let r =
    ran_stopped c.args.limit (seen c.args.machine) (seen c.drive.new.machine) c.args.choices.now used c.len.result
    c.in_ok-steps.steps c.in_ok-steps.end c.in_ok-steps.ensures.given count c.in_ok-steps.ensures.runs
    c.in_ok-steps.ensures.end c.in_ok-steps.ensures.without c.stopped.result c.stopped.ensures in
    record { run = r.is_run; unused = r.ignores_unused }
