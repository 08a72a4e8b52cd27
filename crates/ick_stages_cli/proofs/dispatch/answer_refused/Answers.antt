use Rattle.ick_stages_cli.proofs.Giving.{gives_refused, leaves_refused, refuses_so, somehow}
use Rattle.ick_stages_cli.proofs.dispatch.answer_refused.Goals as goal

pub answer_listed-requires-clause-may : goal.answer_listed-requires-clause-may
answer_listed-requires-clause-may g c = λ needs. somehow _ _ _ _ c.in-Fault.is c.requires.refuses

pub returns-in_default-clause-leaves : goal.returns-in_default-clause-leaves
returns-in_default-clause-leaves g c = leaves_refused c.args.refusal c.refused.result _ _ _ c.refused.ensures

pub returns-in_default-clause-gives : goal.returns-in_default-clause-gives
returns-in_default-clause-gives g c = λ told.
    gives_refused _ _ c.args.refusal c.refused.result _
    (refuses_so _ c.args.refusal c.in_default.not-Fault c.requires.refuses) c.refused.ensures
