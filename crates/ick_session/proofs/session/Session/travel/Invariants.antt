use Rattle.std.proofs.Common.{◌≡◌, ◌<◌, ◌≤◌, ◌+◌, length}
use Rattle.ick_session.specs.Given.{given_by}
use Rattle.ick_session.specs.Session.{settings, seen}
use Rattle.ick_session.specs.Travel.{comes, has_come, last_statement}
use Rattle.ick_session.proofs.TravelLaws.{Made}
use Rattle.ick_session.proofs.session.Session.travel.Given as goal

abbrev pub invariant-loop-made : goal.invariant-loop-made
invariant-loop-made l = record {
  fixed : settings l.self ≡ settings l.initial.self;
  work : (seen l.self).work ≤ (seen l.initial.self).work + l._made;
  made : Made (given_by l.initial.self.given) (comes (settings l.initial.self) (has_come l.target)) l._made (seen l.initial.self) (seen l.self);
  last : length (seen l.initial.self).answers < length (seen l.self).answers → l.last ≡ last_statement (seen l.self);
}
