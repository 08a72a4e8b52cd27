use Rattle.std.proofs.Common.{◌∙◌, ap}
use Rattle.ick_code.specs.Compiled.{code_slots}
use Rattle.ick_inspect.proofs.AddLaws.{same}
use Rattle.ick_stages.specs.Registers.{RegisterNames}
use Rattle.ick_stages.specs.Rules.{seen_of}
use Rattle.ick_stages.specs.Steps.{asked_text, names_in, seen_by, step_text}
use Rattle.ick_stages.proofs.steps.append_next.Goals as goal

pub returns-clause-added : goal.returns-clause-added
returns-clause-added c =
    let slots = code_slots c.args.code.now in
    let draft = c.add_operation.new.draft in
    same (ap (λ (n : RegisterNames). asked_text c.args.asked (step_text n c.args.number (seen_of c.step_of-step.result)))
    c.of_draft-registers.ensures
    ∙ ap (λ s. asked_text c.args.asked (step_text (names_in slots c.args.layout draft) c.args.number s))
    (c.step_of-step.ensures ∙ ap (λ b. seen_by slots c.args.op b draft) c.of-before.ensures)) c.append_step.ensures
