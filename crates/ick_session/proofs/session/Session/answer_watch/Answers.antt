use Rattle.std.proofs.Common.{◌++◌, ◌∙◌, ap₂, refl}
use Rattle.std.specs.Prelude.{min}
use Rattle.ick_step.specs.Seen.{present}
use Rattle.ick_session.specs.Commands.{any_number}
use Rattle.ick_session.specs.Changes.{printed_text}
use Rattle.ick_session.specs.Session.{seen, settings}
use Rattle.ick_session.specs.Travel.{steps_left, way_text, where_text}
use Rattle.ick_inspect.proofs.AddLaws.{same, then}
use Rattle.ick_session.proofs.AnswerLaws.{watched_is}
use Rattle.ick_session.proofs.TravelLaws.{came_at, came_nowhere, keeps_in, on_err, stops_at}
use Rattle.ick_session.proofs.session.Session.answer_watch.Goals as goal

pub returns-clause-answers : goal.returns-clause-answers
returns-clause-answers c =
    let s = seen c.args.self.now in
    let t = seen c.travel.new.self in
    let f = settings c.args.self.now in
    let positions = c.args.positions.now in
    let most = min any_number (steps_left f.limit s) in
    let keeps = keeps_in _ _ _ _ (c.present.ensures.state ∙ c.machine.ensures.state) c.in_ok-held.ensures in
    let stops = c.in_ok-last.ensures.stops in
    let way = same (ap₂ (λ n g. printed_text n (present t) ++ where_text g positions t)
    c.printed-printed.ensures c.travel.ensures.fixed)
    (then c.append_printed.ensures c.append_here.ensures) in
    let name = same (watched_is c.args.name most s t c.in_ok-held.held c.in_ok-last.last keeps stops.on
    c.in_ok-last.ensures.last) c.append_watched.ensures in (
      way_text f positions s t,
      (stops_at f c.in_ok-held.held c.args.name most s t keeps stops, refl),
      then way name,
    )

pub returns-in_err-held-clause-short : goal.returns-in_err-held-clause-short
returns-in_err-held-clause-short c = on_err _ (came_nowhere _ _ _)

pub returns-in_err-last-clause-short : goal.returns-in_err-last-clause-short
returns-in_err-last-clause-short c =
    let s = seen c.args.self.now in
    let keeps = keeps_in _ _ _ _ (c.present.ensures.state ∙ c.machine.ensures.state) c.in_ok-held.ensures in
    on_err _ (came_at (settings c.args.self.now) c.in_ok-held.held c.args.name s (seen c.travel.new.self) keeps
    c.in_err-last.ensures.short)
