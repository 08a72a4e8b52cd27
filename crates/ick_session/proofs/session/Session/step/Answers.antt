use Rattle.std.proofs.Common.{ap, ap₂, sym, ◌∙◌}
use Rattle.ick_code.specs.meaning.Move.{ask}
use Rattle.ick_backtrack.specs.Asked.{asked_of}
use mathlib.Core.Logic.{∥∥₁_map}
use Rattle.ick_step.specs.Histories.{history}
use Rattle.ick_session.specs.Given.{given_by}
use Rattle.ick_session.proofs.CountLaws.{none_counted}
use Rattle.ick_session.proofs.TravelLaws.{err_has, on_err, same_asking, step_short}
use Rattle.ick_session.proofs.session.Session.step.Goals as goal

pub invariant_of-self : goal.invariant_of-self
invariant_of-self c =
    let told = c.step.ensures in
    record {
      kept = ∥∥₁_map c.args.self.now.kept (λ count. count ∙ sym (none_counted _ c.step.result
          (history c.args.self.now.history) (history c.step.new.self) told.errors told.ok told.no_memory));
    }

pub returns-in_err-_made-in-Plain-clause-refused : goal.returns-in_err-_made-in-Plain-clause-refused
returns-in_err-_made-in-Plain-clause-refused c =
    let s = history c.args.self.now.history in
    let asked = ap₂ ask c.machine.ensures.program c.machine.ensures.state in
    let plain = sym asked ∙ same_asking _ _ (sym c.asks.ensures ∙ ap asked_of c.in-Plain.is) in
    on_err _ (err_has c.step.result _ c.in_err-_made-in-Plain.was
    (step_short (given_by c.args.self.now.given) s (history c.step.new.self) c.step.result c.step.ensures.errors
    c.step.ensures.no_memory plain))
