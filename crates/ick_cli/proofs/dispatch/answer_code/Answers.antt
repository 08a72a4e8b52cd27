use Rattle.std.proofs.Common.{◌∙◌, [], sym}
use Rattle.ick_code.specs.Compiled.{code_program}
use Rattle.ick_cli.specs.declared.plan.Runs.TheVariants.{Given, Drawn, Listed}
use Rattle.ick_cli.proofs.Executed.{run_comes}
use Rattle.ick_cli.proofs.Works.{works_as, works_drawn, works_given, works_listed}
use Rattle.ick_cli.proofs.dispatch.answer_code.Goals as goal

pub job_end_of-requires : goal.job_end_of-requires
job_end_of-requires g c = run_comes c.run_fed.result c.run_fed.ensures.errors

pub job_end_of-requires-in-Drawn : goal.job_end_of-requires-in-Drawn
job_end_of-requires-in-Drawn g c = run_comes c.run_fed-in-Drawn.result c.run_fed-in-Drawn.ensures.errors

pub returns-in-Given-clause-answers : goal.returns-in-Given-clause-answers
returns-in-Given-clause-answers g c =
    let program = code_program c.args.code.now in
    works_as program _ c.args.runs.now (Given c.in-Given.choices c.in-Given.limit) c.in-Given.is
    (works_given program _ c.in-Given.choices c.in-Given.limit c.run_fed.result c.job_end_of.result _ _ _ _ _ _ _ _ _
    (λ told choices is. c.run_fed.ensures.run told choices (is ∙ sym c.choices_in.ensures))
    c.run_fed.ensures.reads c.run_fed.ensures.writes c.run_fed.ensures.errors c.job_end_of.ensures)

pub returns-in-Drawn-clause-answers : goal.returns-in-Drawn-clause-answers
returns-in-Drawn-clause-answers g c =
    let program = code_program c.args.code.now in
    works_as program _ c.args.runs.now (Drawn c.in-Drawn.seed c.in-Drawn.limit) c.in-Drawn.is
    (works_drawn program _ c.in-Drawn.seed c.in-Drawn.limit c.run_fed-in-Drawn.result c.job_end_of-in-Drawn.result
    _ _ _ _ _ _ _ _ _ c.run_fed-in-Drawn.ensures.run c.run_fed-in-Drawn.ensures.reads
    c.run_fed-in-Drawn.ensures.writes c.run_fed-in-Drawn.ensures.errors c.job_end_of-in-Drawn.ensures)

pub returns-then-input-clause-answers : goal.returns-then-input-clause-answers
returns-then-input-clause-answers g c =
    let program = code_program c.args.code.now in
    let from = c.in-Listed.from in
    rw c.if-input.true
    (works_as program [] c.args.runs.now (Listed from c.in-Listed.count c.in-Listed.limit) c.in-Listed.is
    (works_listed program from c.in-Listed.count c.in-Listed.limit c.list_over.ensures.leaves
    (λ told. c.list_over.ensures.answer told)))

pub returns-else-input-clause-answers : goal.returns-else-input-clause-answers
returns-else-input-clause-answers g c =
    rw c.if-input.false
    (works_as (code_program c.args.code.now) _ c.args.runs.now
    (Listed c.in-Listed.from c.in-Listed.count c.in-Listed.limit) c.in-Listed.is c.answer_runs.ensures)
