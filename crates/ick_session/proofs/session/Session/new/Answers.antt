use Rattle.std.proofs.Common.{◌∙◌, ap}
use Rattle.ick_step.specs.Seen.{Seen}
use Rattle.ick_session.specs.Given.{given_by}
use Rattle.ick_session.specs.Session.{Settings, no_breakpoint}
use Rattle.ick_session.proofs.MoveLaws.{none_set}
use Rattle.ick_session.proofs.session.Session.new.Goals as goal

pub returns-clause-fixed : goal.returns-clause-fixed
returns-clause-fixed c =
    let run : Seen → Settings = λ s. record {
      program = s.program;
      start = s.start;
      given = given_by c.args.given;
      limit = c.args.limit;
      breakpoints = no_breakpoint;
    } in
    none_set _ c.new.ensures ∙ ap run c.start.ensures
