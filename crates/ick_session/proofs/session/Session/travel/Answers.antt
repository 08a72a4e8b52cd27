use Rattle.std.proofs.Common.{◌≡◌, ◌<◌, ◌∙◌, arith, subst, sym, true, None, ap, length}
use Rattle.std.specs.Prelude.{min, ◌⊎◌}
use Rattle.ick_step.specs.Seen.{present}
use Rattle.ick_session.specs.Session.{seen, settings}
use Rattle.ick_session.specs.Travel.{Steps, comes, has_come, last_statement, next_answer, steps_left}
use Rattle.ick_session.proofs.TravelLaws.{came_short, last_made, made_more, on_err, stops_come, stops_over, stops_stuck}
use Rattle.ick_session.proofs.session.Session.travel.Goals as goal

pub returns-then-has_come-clause-stops : goal.returns-then-has_come-clause-stops
returns-then-has_come-clause-stops c =
    let s = seen c.args.self.now in
    let f = settings c.args.self.now in
    let u = seen c.step.new.self in
    let most = min c.args.most (steps_left f.limit s) in
    let stepped : c.in_ok-step.field-0 ≡ true = c.if-not-branch.false in
    let made = subst (λ g. Steps g (seen c.loop-made.self) u)
    (ap (λ f. f.given) c.loop-made.invariant.fixed) (c.in_ok-step.ensures.made stepped) in
    let lt : c.loop-made._made < most = omega (arith, c.loop-made-test.true, c.min-limit.ensures, c.left.ensures) in
    let same = ap (λ g. comes g (has_come c.args.target.now) (present u))
    (c.step.ensures.fixed ∙ c.loop-made.invariant.fixed) in
    stops_come f.given (comes f (has_come c.args.target.now)) c.loop-made._made most s (seen c.loop-made.self) u
    c.loop-made.invariant.made lt made (sym same ∙ (sym c.has_come.ensures ∙ c.if-has_come.true))

pub loop-made-preserved : goal.loop-made-preserved
loop-made-preserved c =
    let s = seen c.args.self.now in
    let f = settings c.args.self.now in
    let u = seen c.step.new.self in
    let stepped : c.in_ok-step.field-0 ≡ true = c.if-not-branch.false in
    let made = subst (λ g. Steps g (seen c.loop-made.self) u)
    (ap (λ f. f.given) c.loop-made.invariant.fixed) (c.in_ok-step.ensures.made stepped) in
    let same = ap (λ g. comes g (has_come c.args.target.now) (present u))
    (c.step.ensures.fixed ∙ c.loop-made.invariant.fixed) in
    record {
      fixed = c.step.ensures.fixed ∙ c.loop-made.invariant.fixed;
      work = omega (arith, c.step.ensures.few, c.loop-made.invariant.work);
      made =
          made_more f.given (comes f (has_come c.args.target.now)) c.loop-made._made s (seen c.loop-made.self) u
          c.loop-made.invariant.made made (sym same ∙ (sym c.has_come.ensures ∙ c.if-has_come.false));
      last = λ _. c.place-statement.ensures ∙ sym (last_made _ _ _ made);
    }

pub returns-in_err-step-clause-short : goal.returns-in_err-step-clause-short
returns-in_err-step-clause-short c =
    let s = seen c.args.self.now in
    let f = settings c.args.self.now in
    let t = seen c.loop-made.self in
    let u = seen c.step.new.self in
    on_err _ (came_short f (has_come c.args.target.now) c.loop-made._made s t u c.loop-made.invariant.made
    (omega (arith, c.loop-made-test.true, c.min-limit.ensures, c.left.ensures))
    (subst (λ g. (u ≡ t) ⊎ Steps g t u) (ap (λ f. f.given) c.loop-made.invariant.fixed) c.in_err-step.ensures.refused))

pub returns-then-not-branch-clause-stops : goal.returns-then-not-branch-clause-stops
returns-then-not-branch-clause-stops c =
    let s = seen c.args.self.now in
    let f = settings c.args.self.now in
    let t = seen c.loop-made.self in
    let u = seen c.step.new.self in
    let most = min c.args.most (steps_left f.limit s) in
    let stuck = c.in_ok-step.ensures.not_made c.if-not-branch.true in
    let none = subst (λ g. next_answer g t ≡ None) (ap (λ f. f.given) c.loop-made.invariant.fixed) stuck.1 in
    stops_stuck f.given (comes f (has_come c.args.target.now)) c.loop-made._made most s t u c.loop-made.invariant.made
    (omega (arith, c.loop-made-test.true, c.min-limit.ensures, c.left.ensures)) stuck.0 none

pub returns-then-not-branch-clause-last : goal.returns-then-not-branch-clause-last
returns-then-not-branch-clause-last c =
    let s = seen c.args.self.now in
    let stuck = c.in_ok-step.ensures.not_made c.if-not-branch.true in
    λ lt. c.loop-made.invariant.last (subst (λ t. length s.answers < length t.answers) stuck.0 lt)
    ∙ ap last_statement (sym stuck.0)

pub returns-clause-stops : goal.returns-clause-stops
returns-clause-stops c =
    let s = seen c.args.self.now in
    let f = settings c.args.self.now in
    stops_over f.given (comes f (has_come c.args.target.now)) c.loop-made._made
    (min c.args.most (steps_left f.limit s)) s (seen c.loop-made.self) c.loop-made.invariant.made
    (omega (arith, c.loop-made-test.false, c.loop-made.auto._made-end, c.min-limit.ensures, c.left.ensures))

pub returns-then-has_come-clause-last : goal.returns-then-has_come-clause-last
returns-then-has_come-clause-last c =
    let stepped : c.in_ok-step.field-0 ≡ true = c.if-not-branch.false in
    λ _. c.place-statement.ensures ∙ sym (last_made _ _ _ (c.in_ok-step.ensures.made stepped))

pub returns-in_err-step-clause-few : goal.returns-in_err-step-clause-few
returns-in_err-step-clause-few c =
    omega (
      arith,
      c.step.ensures.few,
      c.loop-made.invariant.work,
      c.loop-made-test.true,
      c.min-limit.ensures,
      c.left.ensures,
    )

pub returns-then-not-branch-clause-few : goal.returns-then-not-branch-clause-few
returns-then-not-branch-clause-few c =
    omega (
      arith,
      c.step.ensures.few,
      c.loop-made.invariant.work,
      c.loop-made-test.true,
      c.min-limit.ensures,
      c.left.ensures,
    )

pub returns-then-has_come-clause-few : goal.returns-then-has_come-clause-few
returns-then-has_come-clause-few c =
    omega (
      arith,
      c.step.ensures.few,
      c.loop-made.invariant.work,
      c.loop-made-test.true,
      c.min-limit.ensures,
      c.left.ensures,
    )

pub returns-clause-few : goal.returns-clause-few
returns-clause-few c =
    omega (
      arith,
      c.loop-made.invariant.work,
      c.loop-made-test.false,
      c.loop-made.auto._made-end,
      c.min-limit.ensures,
      c.left.ensures,
    )
