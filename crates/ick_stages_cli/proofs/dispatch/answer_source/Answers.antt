use Rattle.std.proofs.Common.{◌∙◌, sym}
use Rattle.ick_stages_cli.proofs.dispatch.answer_source.Goals as goal

pub answer_listed-requires-clause-may : goal.answer_listed-requires-clause-may
answer_listed-requires-clause-may g c = λ needs.
    let none = sym c.needs_code.ensures ∙ c.if-not-needs_code.true in
    absurd (let both = sym needs ∙ none in cc)
