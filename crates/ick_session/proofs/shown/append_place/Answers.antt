use Rattle.std.proofs.Common.{ℕ, ap, sym}
use Rattle.ick_machine.specs.StateView.{present_program}
use Rattle.ick_session.specs.Shown.{met_text}
use Rattle.ick_inspect.proofs.AddLaws.{same, then}
use Rattle.ick_session.proofs.shown.append_place.Goals as goal

pub returns : goal.returns
returns c =
    let met = λ (n : ℕ). met_text (present_program c.args.present.now) c.args.positions.now n in
    then (then (then c.push_decimal.ensures c.push.ensures) (same (ap met (sym c.place.ensures)) c.append_met.ensures))
    c.push-2.ensures
