use Rattle.std.proofs.Common.{◌∙◌, List, Ok, ap, sym}
use Rattle.ick_outcomes.specs.Askers.{asked_line}
use Rattle.ick_outcomes.specs.declared.following.AskedBy.{AskedBy}
use Rattle.ick_outcomes_cli.proofs.Explaining.{followed_at, line_of_none, line_other, line_same, spoken_at}
use Rattle.ick_outcomes_cli.proofs.Explaining.{texts_differ, texts_same}
use Rattle.ick_outcomes_cli.proofs.asked.run_asked.Goals as goal

pub returns-in_default-clause-none : goal.returns-in_default-clause-none
returns-in_default-clause-none g c = λ e.
    let start = g.P.States.seen c.args.program.now c.args.first.now in
    let p = start.program.statements in
    let s = start.state in
    let at = c.in_ok-state.ensures.seen ∙ spoken_at start c.requires.spoken in
    line_of_none p s c.args.limit c.args.choices.now c.args.line.now _ at
    (c.follow.ensures.none (c.in_ok-followed.was ∙ ap (λ x. Ok x) c.in_default.is))

pub returns-then-ne-clause-none : goal.returns-then-ne-clause-none
returns-then-ne-clause-none g c = λ e.
    let start = g.P.States.seen c.args.program.now c.args.first.now in
    let p = start.program.statements in
    let s = start.state in
    let at = c.in_ok-state.ensures.seen ∙ spoken_at start c.requires.spoken in
    let run = followed_at p s c.args.limit c.args.choices.now _ _ _ _ at
    (rw c.in-Some.is at c.in_ok-followed.ensures.followed) in
    let differ = texts_differ c.as_slice.result.now c.args.line.now _ c.ne.ensures c.if-ne.true in
    line_other p s c.args.limit c.args.choices.now _ _ _ c.args.line.now _ run c.in_ok-wanted.ensures
    (λ same. differ (c.as_slice.ensures.value ∙ same))

pub returns-clause-some : goal.returns-clause-some
returns-clause-some g c =
    let start = g.P.States.seen c.args.program.now c.args.first.now in
    let p = start.program.statements in
    let s = start.state in
    let at = c.in_ok-state.ensures.seen ∙ spoken_at start c.requires.spoken in
    let run = followed_at p s c.args.limit c.args.choices.now _ _ _ _ at
    (rw c.in-Some.is at c.in_ok-followed.ensures.followed) in
    let same = texts_same c.as_slice.result.now c.args.line.now _ c.ne.ensures c.if-ne.false in (
      line_same p s c.args.limit c.args.choices.now _ _ _ c.args.line.now _ run c.in_ok-wanted.ensures
          (sym c.as_slice.ensures.value ∙ same),
      c.in_ok-asked_text.ensures
          ∙ ap (λ (x : List AskedBy). asked_line x) (c.deref.ensures.value ∙ run.askers_are),
    )
