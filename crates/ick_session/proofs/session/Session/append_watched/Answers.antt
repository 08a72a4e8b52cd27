use Rattle.std.proofs.Common.{◌++◌, ◌∙◌, Bool, ap, ap₂, codes, not}
use Rattle.ick_code.specs.meaning.State.{State}
use Rattle.ick_inspect.specs.Names.{variable_text}
use Rattle.ick_session.specs.Changes.{alike, change_text, had_at}
use Rattle.ick_session.specs.NameSnapshot.{had}
use Rattle.ick_inspect.proofs.AddLaws.{same, then}
use Rattle.ick_session.proofs.session.Session.append_watched.Goals as goal

pub returns : goal.returns
returns c =
    let state = c.present-present.ensures.state ∙ c.machine.ensures.state in
    same (ap₂ (λ (s : State) (b : Bool).
    variable_text s c.args.name ++ change_text b c.args.statement ++ codes "\n") state
    (ap not (c.is_in.ensures ∙ ap₂ (λ s name. alike (had c.args.held.now) (had_at s name)) state c.requires)))
    (then (then c.append_variable.ensures c.append_change.ensures) c.push.ensures)
