use Rattle.std.proofs.Common.{◌≡◌, ◌+◌, ◌<◌, ◌∙◌, ap, arith, false, get_or, length, subst, sym, true, None}
use Rattle.ick_step.specs.Seen.{present}
use Rattle.ick_step.specs.Histories.{history}
use Rattle.ick_session.specs.Changes.{alike, had_at}
use Rattle.ick_session.specs.NameSnapshot.{had}
use Rattle.ick_session.specs.Travel.{IsLastChange}
use Rattle.ick_session.proofs.TravelLaws.{at_asks, at_next, is_before_at, is_before_same, keeps_in, keeps_on, kept_is}
use Rattle.ick_session.proofs.TravelLaws.{last_is, last_stays, on_err, repeat_short, still_had}
use Rattle.ick_session.proofs.last_change.last_change.Goals.{then-not-is_kept+in_ok-held-2, else-not-is_kept}
use Rattle.ick_session.proofs.last_change.last_change.Goals as goal

pub repeat-requires : goal.repeat-requires
repeat-requires c =
    let lt : c.loop-at.at < length c.args.answers.now = omega (arith, c.loop-at-test.true) in
    at_asks (history c.args.run.now) (history c.loop-at.run) c.loop-at.at c.args.answers.now None
    c.loop-at.invariant.place c.requires.answers lt c.requires.history

pub is_kept-requires : goal.is_kept-requires
is_kept-requires c = λ no.
    let t = history c.loop-at.run in
    let u = history c.repeat.new.run in
    still_had t u (get_or c.args.answers.now c.loop-at.at None) c.loop-at.held c.args.name _ _ _ c.loop-at.invariant.held
    c.in_ok-repeat.ensures.made
    (c.present-in-loop-at.ensures.program ∙ c.machine-in-loop-at.ensures.program)
    (c.present-in-loop-at.ensures.state ∙ c.machine-in-loop-at.ensures.state)
    (c.present-in-loop-at-2.ensures.state ∙ c.machine-in-loop-at-2.ensures.state)
    (c.may_change-may.ensures no)

pub loop-at-preserved : goal.loop-at-preserved
loop-at-preserved c =
    let s = history c.args.run.now in
    let t = history c.loop-at.run in
    let u = history c.repeat.new.run in
    let n = c.loop-at.at in
    let held = c.loop-at.held in
    let lt : n < length c.args.answers.now = omega (arith, c.loop-at-test.true) in
    let place = at_next s t u n c.args.answers.now None c.loop-at.invariant.place c.requires.answers lt
    c.in_ok-repeat.ensures.made in
    let tests : c.is_kept.result ≡ alike (had held) (had_at (present u) held.name) =
    c.is_kept.ensures ∙ ap (λ v. alike (had held) (had_at v held.name))
    (c.present-in-loop-at-2.ensures.state ∙ c.machine-in-loop-at-2.ensures.state) in
    let kept = kept_is s t u n c.args.name held c.is_kept.result c.loop-at.invariant.place place
    c.loop-at.invariant.held tests in
    elim c.if-not-is_kept.branch [
      | then-not-is_kept+in_ok-held-2 w ↦
          let differs : c.is_kept.result ≡ false = w.if-not-is_kept.true in
          record {
            place = place;
            work = omega (arith, c.repeat.ensures.few, c.loop-at.invariant.work);
            held = rw w.held-is (keeps_in _ _ _ _ (w.present-then-not-is_kept.ensures.state
                ∙ w.machine-then-not-is_kept.ensures.state) w.in_ok-held-2.ensures);
            last = rw w.last-is (last_is s c.args.name n (sym kept ∙ differs));
          }
      | else-not-is_kept w ↦
          let same : c.is_kept.result ≡ true = w.if-not-is_kept.false in
          record {
            place = place;
            work = omega (arith, c.repeat.ensures.few, c.loop-at.invariant.work);
            held = rw w.held-is (keeps_on held (present t) (present u) c.args.name c.is_kept.result
                c.loop-at.invariant.held tests same);
            last = rw w.last-is (last_stays s c.args.name n c.loop-at.last (sym kept ∙ same) c.loop-at.invariant.last);
          }
    ]

pub returns-clause-last : goal.returns-clause-last
returns-clause-last c =
    let s = history c.args.run.now in
    let e : c.loop-at.at ≡ length s.answers =
    omega (arith, c.loop-at-test.false, c.loop-at.auto.at-end, ap length c.requires.answers) in
    subst (λ n. IsLastChange s c.args.name n c.loop-at.last) e c.loop-at.invariant.last

pub returns-in_err-repeat-clause-few : goal.returns-in_err-repeat-clause-few
returns-in_err-repeat-clause-few c =
    omega (
      arith,
      c.repeat.ensures.few,
      c.loop-at.invariant.work,
      c.loop-at-test.true,
      ap length c.requires.answers,
    )

pub returns-in_err-held-2-clause-few : goal.returns-in_err-held-2-clause-few
returns-in_err-held-2-clause-few c =
    omega (
      arith,
      c.repeat.ensures.few,
      c.loop-at.invariant.work,
      c.loop-at-test.true,
      ap length c.requires.answers,
    )

pub returns-clause-few : goal.returns-clause-few
returns-clause-few c =
    omega (
      arith,
      c.loop-at.invariant.work,
      c.loop-at-test.false,
      c.loop-at.auto.at-end,
      ap length c.requires.answers,
    )

pub returns-in_err-restart-clause-short : goal.returns-in_err-restart-clause-short
returns-in_err-restart-clause-short c = on_err _ (is_before_same _ _ c.in_err-restart.ensures.errors.1)

pub returns-in_err-held-clause-short : goal.returns-in_err-held-clause-short
returns-in_err-held-clause-short c =
    on_err _ (is_before_at (history c.args.run.now) (history c.restart.new.self) 0 (omega arith) (record {
      program = c.restart.ensures.program;
      start = c.restart.ensures.start;
      answers = c.in_ok-restart.ensures.ok;
    }))

pub returns-in_err-repeat-clause-short : goal.returns-in_err-repeat-clause-short
returns-in_err-repeat-clause-short c =
    let lt : c.loop-at.at < length c.args.answers.now = omega (arith, c.loop-at-test.true) in
    on_err _ (repeat_short (history c.args.run.now) (history c.loop-at.run) (history c.repeat.new.run) c.loop-at.at
    c.args.answers.now None c.loop-at.invariant.place c.requires.answers lt c.in_err-repeat.ensures.short)

pub returns-in_err-held-2-clause-short : goal.returns-in_err-held-2-clause-short
returns-in_err-held-2-clause-short c =
    let s = history c.args.run.now in
    let lt : c.loop-at.at < length c.args.answers.now = omega (arith, c.loop-at-test.true) in
    on_err _ (is_before_at s (history c.repeat.new.run) (c.loop-at.at + 1) (omega (arith, lt, ap length c.requires.answers))
    (at_next s (history c.loop-at.run) (history c.repeat.new.run) c.loop-at.at c.args.answers.now None
    c.loop-at.invariant.place c.requires.answers lt c.in_ok-repeat.ensures.made))
