use Rattle.std.proofs.Common.{◌≤◌, ◌+◌}
use Rattle.ick_step.specs.Seen.{present}
use Rattle.ick_step.specs.Histories.{history}
use Rattle.ick_session.specs.NameSnapshot.{Keeps}
use Rattle.ick_session.specs.Travel.{IsAt, IsLastChange}
use Rattle.ick_session.proofs.last_change.last_change.Given as goal

abbrev pub invariant-loop-at : goal.invariant-loop-at
invariant-loop-at l = record {
  place : IsAt (history l.fn.run) (history l.run) l.at;
  work : (history l.run).work ≤ (history l.fn.run).work + 1000 + l.at;
  held : Keeps l.held (present (history l.run)) l.name;
  last : IsLastChange (history l.fn.run) l.name l.at l.last;
}
