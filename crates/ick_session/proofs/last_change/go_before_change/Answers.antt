use Rattle.std.proofs.Common.{◌≡◌, ◌∙◌, ap, arith, length}
use Rattle.ick_step.specs.Histories.{history}
use Rattle.ick_session.proofs.TravelLaws.{back_at, last_some}
use Rattle.ick_session.proofs.last_change.go_before_change.Goals as goal

pub returns-in-Some-clause-found : goal.returns-in-Some-clause-found
returns-in-Some-clause-found c = λ _.
    let s = history c.args.run.now in
    let last = last_some s c.args.name (length s.answers) c.in_ok-at.field-0 c.in-Some.at c.in-Some.is
    c.in_ok-at.ensures.last in
    let long : c.len.result ≡ length s.answers =
    omega (
      arith,
      c.len.ensures,
      c.in_ok-answers.answers.ok.0,
      ap length (c.in_ok-answers.ensures.items ∙ c.answers.ensures.answers),
    ) in (
      c.in-Some.at,
      last,
      back_at s (history c.last_change.new.run) (history c.back.new.self) c.in-Some.at
          c.saturating_sub.result c.len.result c.in_ok-at.ensures.same last.within c.saturating_sub.ensures
          long (record {
            program = c.back.ensures.program;
            start = c.back.ensures.start;
            answers = c.in_ok-back-in-Some.ensures.ok;
          }),
    )
