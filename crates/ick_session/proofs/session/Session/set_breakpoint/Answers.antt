use Rattle.std.proofs.Common.{◌∙◌, ap, sym}
use Rattle.ick_session.specs.Breakpoints.{has_statement, last_text, no_statement}
use Rattle.ick_session.specs.Session.{settings}
use Rattle.ick_session.proofs.LabelLaws.{set_is}
use Rattle.ick_inspect.proofs.AddLaws.{same}
use Rattle.ick_session.proofs.session.Session.set_breakpoint.Goals as goal

pub returns-then-not-has_statement-clause-answers : goal.returns-then-not-has_statement-clause-answers
returns-then-not-has_statement-clause-answers c =
    let program = c.present.ensures.program ∙ c.machine.ensures.program in
    let again = c.present-then-not-has_statement.ensures.program ∙ c.machine-then-not-has_statement.ensures.program in (
      last_text _,
      no_statement c.args.statement (sym (ap (λ p. has_statement p c.args.statement) program)
          ∙ (sym c.has_statement.ensures ∙ c.if-not-has_statement.true)),
      same (ap last_text again) c.append_last.ensures,
    )

pub set_at-requires-clause-there : goal.set_at-requires-clause-there
set_at-requires-clause-there c =
    let program = c.present.ensures.program ∙ c.machine.ensures.program in
    sym (ap (λ p. has_statement p c.args.statement) program) ∙ (sym c.has_statement.ensures ∙ c.if-not-has_statement.false)

pub returns-clause-answers : goal.returns-clause-answers
returns-clause-answers c =
    let program = c.present.ensures.program ∙ c.machine.ensures.program in
    let there = sym (ap (λ p. has_statement p c.args.statement) program)
    ∙ (sym c.has_statement.ensures ∙ c.if-not-has_statement.false) in
    set_is c.set_at.result (settings c.args.self.now) (settings c.set_at.new.self) c.args.positions.now c.args.statement
    c.args.out.now c.set_at.new.out there c.set_at.ensures.sets c.set_at.ensures.text
