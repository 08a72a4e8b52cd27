use Rattle.std.proofs.Common.{false, subst, sym}
use Rattle.ick_session.specs.Session.{seen, settings}
use Rattle.ick_session.specs.Travel.{CameSoFar}
use Rattle.ick_session.proofs.MoveLaws.{run_answers}
use Rattle.ick_session.proofs.TravelLaws.{came_whole, on_err}
use Rattle.ick_session.proofs.session.Session.answer_run.Goals as goal

pub returns-in_err-goes-clause-short : goal.returns-in_err-goes-clause-short
returns-in_err-goes-clause-short c =
    let s = seen c.args.self.now in
    let f = settings c.args.self.now in
    on_err _ (subst (λ t. CameSoFar f (λ v. false) s t) (sym c.goes_on.ensures.seen)
    (came_whole f (λ v. false) c.args.most s (seen c.forward.new.self) c.in_ok-forward.ensures.stops))

pub returns-clause-answers : goal.returns-clause-answers
returns-clause-answers c =
    let s = seen c.args.self.now in
    run_answers (settings c.args.self.now) (settings c.forward.new.self) c.args.positions.now c.args.most s
    (seen c.forward.new.self) (seen c.goes_on.new.self) c.in_ok-goes.goes c.args.out.now c.forward.new.out
    c.append_going.new.out c.forward.ensures.fixed c.goes_on.ensures.seen c.in_ok-forward.ensures.stops
    c.in_ok-forward.ensures.text (c.in_ok-goes.ensures.goes s (sym c.steps-before.ensures)) c.append_going.ensures
