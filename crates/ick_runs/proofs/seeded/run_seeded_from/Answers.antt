use Rattle.std.proofs.Common.{◌≡◌, length, arith}
use Rattle.std.proofs.lemmas.Grind.{common_steps}
use Rattle.ick_runs.proofs.SeededLaws.{seeded_stopped}
use Rattle.ick_runs.proofs.seeded.run_seeded_from.Goals as goal

pub returns : goal.returns
returns g c =
    let seen = g.M.Backtrack.seen in
    let choices = c.drive.new.choices.items in
    let count : c.len.result ≡ length choices = grind (arith, common_steps) in
    let r =
    seeded_stopped c.args.limit c.args.seed (seen c.args.machine) (seen c.drive.new.machine) choices c.len.result
    c.in_ok-steps.steps c.in_ok-steps.end c.in_ok-steps.ensures.given count c.in_ok-steps.ensures.runs
    c.in_ok-steps.ensures.end c.in_ok-steps.ensures.without c.in_ok-ran.ran c.in_ok-ran.ensures in
    record { choices = r.choices; all = r.all; ran = r.ran }
