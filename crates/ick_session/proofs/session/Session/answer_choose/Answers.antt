use Rattle.std.proofs.Common.{◌≡◌, ◌<◌, ◌∙◌, ◌++◌, ap₂, arith, codes, false, subst, sym, true}
use Rattle.ick_step.specs.Seen.{present}
use Rattle.ick_session.specs.Answers.{Chooses, at_limit, chooses, not_asked}
use Rattle.ick_session.specs.Changes.{printed_text}
use Rattle.ick_session.specs.Session.{settings, seen}
use Rattle.ick_session.specs.Travel.{steps_left, way_text, where_text}
use Rattle.ick_inspect.proofs.AddLaws.{same, then}
use Rattle.ick_session.proofs.session.Session.answer_choose.Goals as goal

pub returns-then-left-eq0-clause-answers : goal.returns-then-left-eq0-clause-answers
returns-then-left-eq0-clause-answers c =
    (codes "limit reached\n", at_limit (sym c.left.ensures ∙ c.if-left-eq0.true), c.push.ensures)

pub returns-then-not-branch-clause-answers : goal.returns-then-not-branch-clause-answers
returns-then-not-branch-clause-answers c =
    let s = seen c.args.self.now in
    let none : c.in_ok-choose.field-0 ≡ false = c.if-not-branch.true in
    let some : 0 < steps_left c.args.self.now.limit s = omega (arith, c.left.ensures, c.if-left-eq0.false) in (
      codes "no choice is asked\n",
      subst (λ t. Chooses (settings c.args.self.now) c.args.positions.now c.args.done s t (codes "no choice is asked\n"))
          (sym (c.in_ok-choose.ensures.not_chosen none)) (not_asked some (sym c.in_ok-choose.ensures.asked ∙ none)),
      c.push-then-not-branch.ensures,
    )

pub returns-clause-answers : goal.returns-clause-answers
returns-clause-answers c =
    let s = seen c.args.self.now in
    let t = seen c.choose.new.self in
    let f = settings c.args.self.now in
    let positions = c.args.positions.now in
    let asked : c.in_ok-choose.field-0 ≡ true = c.if-not-branch.false in
    let some : 0 < steps_left c.args.self.now.limit s = omega (arith, c.left.ensures, c.if-left-eq0.false) in (
      way_text f positions s t,
      subst (λ u. Chooses f positions c.args.done s u (way_text f positions s u))
          (sym (c.in_ok-choose.ensures.chosen asked)) (chooses some (sym c.in_ok-choose.ensures.asked ∙ asked)),
      same (ap₂ (λ n g. printed_text n (present t) ++ where_text g positions t)
          c.printed-printed.ensures c.choose.ensures.fixed)
          (then c.append_printed.ensures c.append_here.ensures),
    )
