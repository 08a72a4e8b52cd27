use Rattle.std.proofs.Common.{◌∙◌, ap, ap₂}
use Rattle.ick_inspect.proofs.AddLaws.{same, then}
use Rattle.ick_machine.specs.Seen.{trailed_machine}
use Rattle.ick_session.specs.Changes.{step_text}
use Rattle.ick_session.specs.Shown.{place_text}
use Rattle.ick_step_cli.proofs.TraceLaws.{done_is}
use Rattle.ick_step_cli.proofs.trace.append_lines.Goals as goal

pub returns-clause-lines : goal.returns-clause-lines
returns-clause-lines c =
    let m = trailed_machine c.args.machines.now.before in
    let place = same (ap₂ (λ p s. place_text p c.args.positions.now c.args.steps s) c.present.ensures.program
    c.present.ensures.state) c.append_place.ensures in
    let done = c.unwrap_or.ensures ∙ done_is c.args.answer in
    then (then place c.append_given.ensures)
    (same (ap (λ d. step_text m.program c.args.code.now m.state d) done) c.in_ok-trace_step.ensures.shows)
