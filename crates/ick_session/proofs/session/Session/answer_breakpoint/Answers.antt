use Rattle.std.proofs.Common.{ℕ, List, ap, refl, subst, sym}
use Rattle.ick_inspect.specs.Text.{Adds}
use Rattle.ick_session.specs.Breakpoints.{AnswersBreakpoint}
use Rattle.ick_session.specs.Commands.{order_of}
use Rattle.ick_session.specs.Session.{settings}
use Rattle.ick_session.proofs.MoveLaws.{cleared}
use Rattle.ick_session.proofs.session.Session.answer_breakpoint.Goals as goal

pub returns-in-Delete-clause-answers : goal.returns-in-Delete-clause-answers
returns-in-Delete-clause-answers c = λ _.
    subst (λ o. (text : List ℕ)
    × AnswersBreakpoint (settings c.args.self.now) c.args.positions.now o (settings c.delete_breakpoint.new.self) text
    × Adds c.args.out.now c.delete_breakpoint.new.out text) (sym (ap order_of c.in-Delete.is))
    (c.delete_breakpoint.ensures.answers c.args.positions.now)

pub returns-in-DeleteAll-clause-answers : goal.returns-in-DeleteAll-clause-answers
returns-in-DeleteAll-clause-answers c = λ _.
    cleared (settings c.args.self.now) _ c.args.positions.now (order_of c.args.command) c.args.out.now c.push.new.self
    (ap order_of c.in-DeleteAll.is) (record { same = refl; none = c.clear.ensures }) c.push.ensures
