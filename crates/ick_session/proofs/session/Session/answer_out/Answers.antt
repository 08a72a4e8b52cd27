use Rattle.std.proofs.Common.{◌∙◌, ◌-◌, arith, codes, length, refl, subst, sym}
use Rattle.std.specs.Prelude.{OnErr, OnOk, min, not, nat_lt}
use Rattle.ick_session.specs.Answers.{no_return}
use Rattle.ick_session.specs.Commands.{any_number}
use Rattle.ick_session.specs.Session.{seen, settings}
use Rattle.ick_session.specs.Travel.{CameSoFar, StopsFirst, comes, steps_left}
use Rattle.ick_session.proofs.MoveLaws.{no_list, out_answers}
use Rattle.ick_session.proofs.session.Session.answer_out.Goals as goal

pub returns-then-depth-eq0-clause-answers : goal.returns-then-depth-eq0-clause-answers
returns-then-depth-eq0-clause-answers c = (
  codes "the NEXT stack is empty\n",
  no_return (no_list _ (sym c.depth-depth.ensures ∙ c.if-depth-eq0.true)) refl,
  c.push.ensures,
)

pub returns-clause-short : goal.returns-clause-short
returns-clause-short c =
    let s = seen c.args.self.now in
    let f = settings c.args.self.now in
    let t = seen c.forward.new.self in
    subst (λ d. OnErr c.forward.result (CameSoFar f (λ v. not (nat_lt (d - 1) (length v.returns))) s t))
    c.depth-depth.ensures c.forward.ensures.short

pub returns-clause-answers : goal.returns-clause-answers
returns-clause-answers c =
    let s = seen c.args.self.now in
    let f = settings c.args.self.now in
    let t = seen c.forward.new.self in
    out_answers c.forward.result f c.args.positions.now s t c.args.out.now c.forward.new.out
    (omega (arith, c.depth-depth.ensures, c.if-depth-eq0.false))
    (subst (λ d. OnOk c.forward.result (StopsFirst f.given
    (comes f (λ v. not (nat_lt (d - 1) (length v.returns)))) (min any_number (steps_left f.limit s)) s t))
    c.depth-depth.ensures c.forward.ensures.stops) c.forward.ensures.text
