use Rattle.std.proofs.Common.{ap, length, subst, sym}
use Rattle.std.specs.Prelude.{OnErr, OnOk, ℕ, List, min, not, nat_lt}
use Rattle.ick_inspect.specs.Text.{Adds}
use Rattle.ick_session.specs.Answers.{AnswersCommand, StopsShort}
use Rattle.ick_session.specs.Commands.{any_number, order_of}
use Rattle.ick_session.specs.Session.{seen, settings}
use Rattle.ick_session.specs.Travel.{CameSoFar, StopsFirst, comes, steps_left}
use Rattle.ick_session.proofs.MoveLaws.{goes_answers, no_move}
use Rattle.ick_session.proofs.session.Session.answer_move.Goals as goal

pub returns-in-Next-clause-short : goal.returns-in-Next-clause-short
returns-in-Next-clause-short c =
    let s = seen c.args.self.now in
    let f = settings c.args.self.now in
    let t = seen c.forward-in-Next.new.self in
    let r = c.forward-in-Next.result in
    subst (λ o. OnErr r (StopsShort f s o t)) (sym (ap order_of c.in-Next.is))
    (subst (λ d. OnErr r (CameSoFar f (λ v. not (nat_lt d (length v.returns))) s t)) c.depth-depth.ensures
    c.forward-in-Next.ensures.short)

pub returns-in-Next-clause-answers : goal.returns-in-Next-clause-answers
returns-in-Next-clause-answers c =
    let s = seen c.args.self.now in
    let f = settings c.args.self.now in
    let t = seen c.forward-in-Next.new.self in
    let r = c.forward-in-Next.result in
    let positions = c.args.positions.now in
    subst (λ o. OnOk r ((text : List ℕ) × AnswersCommand f positions s o t text
    × Adds c.args.out.now c.forward-in-Next.new.out text)) (sym (ap order_of c.in-Next.is))
    (goes_answers r f positions _ any_number s t c.args.out.now c.forward-in-Next.new.out
    (subst (λ d. OnOk r (StopsFirst f.given (comes f (λ v. not (nat_lt d (length v.returns))))
    (min any_number (steps_left f.limit s)) s t)) c.depth-depth.ensures c.forward-in-Next.ensures.stops)
    c.forward-in-Next.ensures.text)

pub returns-in_default : goal.returns-in_default
returns-in_default c =
    absurd (no_move c.args.command c.requires.moves
    c.in_default.not-Step c.in_default.not-Back c.in_default.not-Next c.in_default.not-Out c.in_default.not-Until
    c.in_default.not-Run c.in_default.not-Choose c.in_default.not-Watch c.in_default.not-Why)
