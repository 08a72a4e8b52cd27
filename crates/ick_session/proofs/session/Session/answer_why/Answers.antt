use Rattle.std.proofs.Common.{◌++◌, ◌∙◌, ap, codes, true}
use Rattle.ick_code.specs.meaning.State.{State}
use Rattle.ick_inspect.specs.Names.{variable_text}
use Rattle.ick_step.specs.Seen.{present}
use Rattle.ick_session.specs.Answers.{changed, changed_text, name_text, not_changed}
use Rattle.ick_session.specs.Changes.{change_text}
use Rattle.ick_session.specs.Session.{settings, seen}
use Rattle.ick_session.specs.Travel.{where_text}
use Rattle.ick_inspect.proofs.AddLaws.{same, then}
use Rattle.ick_session.proofs.session.Session.answer_why.Goals as goal

pub returns-then-branch-clause-answers : goal.returns-then-branch-clause-answers
returns-then-branch-clause-answers c =
    let s = seen c.args.self.now in
    let t = seen c.before_change.new.self in
    let f = settings c.args.self.now in
    let positions = c.args.positions.now in
    let found = c.in_ok-before_change.ensures.found c.if-branch.true in
    let state = c.present.ensures.state ∙ c.machine.ensures.state in
    let line = same (ap (λ (v : State). variable_text v c.args.name) state) c.append_variable.ensures in
    let by = same (ap (change_text true) c.place.ensures) c.append_change.ensures in (
      changed_text c.args.name (present s) true (present t).place ++ where_text f positions t,
      changed found.0 found.1 found.2,
      then (then (then line by) c.push.ensures)
          (same (ap (λ g. where_text g positions t) c.before_change.ensures.fixed) c.append_here.ensures),
    )

pub returns-else-branch-clause-answers : goal.returns-else-branch-clause-answers
returns-else-branch-clause-answers c =
    let s = seen c.args.self.now in
    let state = c.present.ensures.state ∙ c.machine.ensures.state in
    let line = same (ap (λ (v : State). variable_text v c.args.name) state) c.append_variable.ensures in
    let none = c.in_ok-before_change.ensures.none c.if-branch.false in (
      name_text c.args.name s ++ codes "not changed by any step\n",
      not_changed none.0 none.1,
      then (then line c.push-else-branch.ensures) c.push-else-branch-2.ensures,
    )
