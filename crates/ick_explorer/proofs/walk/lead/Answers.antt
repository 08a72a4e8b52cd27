use Rattle.std.proofs.Common.{◌≡◌, ◌∙◌, ◌<◌, length, ap, arith, inl, inr}
use Rattle.std.specs.Prelude.{Some}
use Rattle.std.proofs.lemmas.Grind.{common_steps}
use Rattle.std.proofs.lemmas.List.{length_push}
use Rattle.ick_explorer.specs.Walks.{given_by}
use Rattle.ick_explorer.proofs.Walking.{asks_over, asks_plain, moves_plain, made_some}
use Rattle.ick_explorer.proofs.Walking.{goes_plainly, goes_by}
use Rattle.ick_explorer.proofs.walk.lead.Goals as goal

pub returns-in-Ended-clause-over : goal.returns-in-Ended-clause-over
returns-in-Ended-clause-over g c = record {
  goes = c.on.invariant.goes;
  over = inl (asks_over c.asks-asked.result c.in-Ended.field-0 (g.M.Backtrack.seen c.on.machine) c.in-Ended.is
      c.asks-asked.ensures);
}

pub returns-then-steps-limit-clause-over : goal.returns-then-steps-limit-clause-over
returns-then-steps-limit-clause-over g c = record {
  goes = c.on.invariant.goes;
  over = inr (grind (arith, common_steps));
}

pub on-preserved-in-Choice : goal.on-preserved-in-Choice
on-preserved-in-Choice g c =
    let i = c.on.invariant in
    let given : given_by c.args.way c.on.used ≡ Some c.in-Some.done = cc in
    let more = ap length c.in-Ok.ensures.choice ∙ length_push c.on.path.choices c.in-Some.done in
    let count = i.count in
    let few = i.few in
    record {
      goes =
          goes_by _ _ _ _ _ _ _ _ _ _ _ _ _ _ c.on.used c.in-Some.done i.count given c.in-Ok.ensures.choice i.goes
          c.in-Ok.ensures.moves;
      count = omega (arith, more, count);
      few = omega (arith, few);
    }

pub on-preserved : goal.on-preserved
on-preserved g c =
    let m = g.M.Backtrack.seen c.on.machine in
    let i = c.on.invariant in
    let lt : c.on.steps < c.args.limit = grind (arith, common_steps) in
    let made = c.in-Ok-run.ensures in
    let few = i.few in
    record {
      goes =
          goes_plainly _ _ _ _ _ _ _ _ _ _ _ _ i.goes
          (moves_plain c.args.limit m (g.M.Backtrack.seen c.run.new.self) c.on.path.choices c.on.path.points.items
          c.on.steps c.in-Ok-run.made (omega (arith, made.within, lt)) made.ok);
      count = i.count;
      few = omega (arith, few);
    }

pub on-smaller : goal.on-smaller
on-smaller g c =
    let m = g.M.Backtrack.seen c.on.machine in
    let lt : c.on.steps < c.args.limit = grind (arith, common_steps) in
    let some = made_some m (g.M.Backtrack.seen c.run.new.self) c.args.limit c.on.steps c.in-Ok-run.made
    c.in-Ok-run.ensures.ok c.in-Ok-run.ensures.rests
    (asks_plain c.asks-asked.result m c.in_default-asked.not-Choice c.in_default.not-Ended c.asks-asked.ensures) lt in
    omega (arith, some, lt)
