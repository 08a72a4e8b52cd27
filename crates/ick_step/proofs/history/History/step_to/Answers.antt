use Rattle.std.proofs.Common.{◌<◌, ap, sym, ◌∙◌, arith}
use Rattle.std.specs.Prelude.{Err}
use Rattle.ick_step.specs.Arrival.{has_come}
use Rattle.ick_step.specs.Seen.{seen_at}
use Rattle.ick_step.proofs.MarkLaws.{later-none}
use Rattle.ick_step.proofs.ArrivalLaws.{as_before, full_later, had_room, not_first, not_next, one_more, refused_at, refused_by}
use Rattle.ick_step.proofs.history.History.step_to.Goals as goal

pub on-init : goal.on-init
on-init g c =
    let s = seen_at (g.M.Backtrack.seen c.args.self.now.machine) c.args.self.now.answers.items in
    record {
      within = omega arith;
      made = later-none s;
      before = not_first (has_come c.args.target) s;
      room = λ some. absurd (omega (arith, some));
    }

pub on-preserved : goal.on-preserved
on-preserved g c =
    let seen = g.M.Backtrack.seen in
    let s = seen_at (seen c.args.self.now.machine) c.args.self.now.answers.items in
    let cur = seen_at (seen c.on.self.machine) c.on.self.answers.items in
    let new = seen_at (seen c.step.new.self.machine) c.step.new.self.answers.items in
    let i = c.on.invariant in
    let some : 0 < c.in-Ok.more = omega arith in
    let is = one_more s cur new c.on.made c.in-Ok.more i.made c.in-Ok.ensures.ok some
    c.in-Ok.ensures.within in
    record {
      within = omega (arith, c.on-test.true);
      made = is;
      room = λ _. had_room s cur c.on.made c.in-Ok.more c.step.result i.made c.in-Ok.is c.step.ensures.work_full.1;
      before =
          not_next (has_come c.args.target) s new (seen c.machine.result.now).state c.on.made i.before is
          c.machine.ensures.state (sym c.is_at.ensures ∙ c.if-is_at.false);
    }

pub returns-in-Err-clause-err : goal.returns-in-Err-clause-err
returns-in-Err-clause-err g c =
    let seen = g.M.Backtrack.seen in
    let s = seen_at (seen c.args.self.now.machine) c.args.self.now.answers.items in
    let cur = seen_at (seen c.on.self.machine) c.on.self.answers.items in
    let new = seen_at (seen c.step.new.self.machine) c.step.new.self.answers.items in
    let refused = c.in-Err.ensures in
    let by = refused_by cur new c.in-Err.error refused.errors (λ e. refused.work_full.0 (ap Err e)) in
    refused_at (has_come c.args.target) s cur new c.args.limit c.on.made c.in-Err.error c.on-test.true
    c.on.invariant.before c.on.invariant.made by (as_before cur new c.in-Err.error refused.errors)
    (λ e. refused.no_memory (ap Err e))

pub returns-in-Err-clause-errors : goal.returns-in-Err-clause-errors
returns-in-Err-clause-errors g c =
    let seen = g.M.Backtrack.seen in
    let cur = seen_at (seen c.on.self.machine) c.on.self.answers.items in
    let new = seen_at (seen c.step.new.self.machine) c.step.new.self.answers.items in
    let refused = c.in-Err.ensures in
    refused_by cur new c.in-Err.error refused.errors (λ e. refused.work_full.0 (ap Err e))

pub returns-in-Err-clause-full : goal.returns-in-Err-clause-full
returns-in-Err-clause-full g c = λ full some.
    let seen = g.M.Backtrack.seen in
    let s = seen_at (seen c.args.self.now.machine) c.args.self.now.answers.items in
    let cur = seen_at (seen c.on.self.machine) c.on.self.answers.items in
    sym c.in-Err.is ∙ c.step.ensures.work_full.1 (full_later s cur c.on.made c.on.invariant.made full)
