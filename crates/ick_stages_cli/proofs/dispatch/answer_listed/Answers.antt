use Rattle.std.proofs.Common.{subst}
use Rattle.ick_stages.specs.Listed.{AreSome}
use Rattle.ick_stages_cli.specs.Tool.{IsListedAnswer, lines_listed, listed}
use Rattle.ick_stages_cli.proofs.Giving.{gives_refused, gives_so, leaves_refused}
use Rattle.ick_stages_cli.proofs.dispatch.answer_listed.Goals as goal

pub returns-in-Ok-clause-gives : goal.returns-in-Ok-clause-gives
returns-in-Ok-clause-gives g c = λ told.
    let asked = c.args.asked.now in
    let source = c.args.source.now in
    let items = c.in-Ok.listed.statements.items in
    let same = c.as_slice-seen.ensures.value in
    let alike = c.as_slice.ensures.value in
    gives_so c.answer_statements.result _ _
    (λ answer h. listed c.in-Ok.listed answer c.in-Ok.ensures.listed c.requires.may
    (subst (λ faults. IsListedAnswer asked source items faults answer) alike
    (subst (λ seen. IsListedAnswer asked source seen c.as_slice.result.now answer) same h)))
    (λ lines h. lines_listed c.in-Ok.listed lines c.in-Ok.ensures.listed
    (subst (λ faults. AreSome source items faults asked lines) alike
    (subst (λ seen. AreSome source seen c.as_slice.result.now asked lines) same h)))
    (c.answer_statements.ensures.gives told)

pub returns-in-Err-clause-leaves : goal.returns-in-Err-clause-leaves
returns-in-Err-clause-leaves g c = leaves_refused c.in-Err.refusal c.refused.result _ _ _ c.refused.ensures

pub returns-in-Err-clause-gives : goal.returns-in-Err-clause-gives
returns-in-Err-clause-gives g c = λ told.
    gives_refused _ _ c.in-Err.refusal c.refused.result _ c.in-Err.ensures.refused c.refused.ensures
