use Rattle.std.proofs.Common.{refl, subst, sym}
use Rattle.ick_source.specs.BodyGrammar.{bodies}
use Rattle.ick_source.specs.StopAnswers.{StopsAt, behind_body, within_body}
use Rattle.ick_source.proofs.BodyByteReadings.{body_recognised, has_read, ran}
use Rattle.ick_source.proofs.GrammarLaws.{there}
use Rattle.ick_source.proofs.StopPlaces.{halted}
use Rattle.ick_source.proofs.stop.stop_from.Goals as goal

pub returns-in-Absent : goal.returns-in-Absent
returns-in-Absent c =
    let at = c.body.new.self.at in
    record {
      last = at;
      stops =
          subst (StopsAt c.args.text.now c.args.begin at) (sym c.placed.ensures.wanted)
          (within_body
          (halted c.args.text.now c.args.begin _ _ _ _ _ c.body.ensures refl refl refl c.in-Some.is c.in-Absent.is));
      place = c.placed.ensures.place;
    }

pub returns-in-None-boundary_after : goal.returns-in-None-boundary_after
returns-in-None-boundary_after c =
    let at = c.body.new.self.at in
    let read = has_read c.args.text.now c.args.begin c.body.result _ _ refl refl refl
    (ran _ _ _ c.body.ensures refl c.in-None.is) in
    record {
      last = at;
      stops =
          subst (StopsAt c.args.text.now c.args.begin at) (sym c.placed-in-None-boundary_after.ensures.wanted)
          (behind_body read.tree (there bodies _ _ read.finding) c.in-None-boundary_after.ensures);
      place = c.placed-in-None-boundary_after.ensures.place;
    }

pub returns-in-Some-boundary_after : goal.returns-in-Some-boundary_after
returns-in-Some-boundary_after c =
    let read = has_read c.args.text.now c.args.begin c.body.result _ _ refl refl refl
    (ran _ _ _ c.body.ensures refl c.in-None.is) in
    (c.in-Some-boundary_after.field-0, read.tree, body_recognised read c.in-Some-boundary_after.ensures)
