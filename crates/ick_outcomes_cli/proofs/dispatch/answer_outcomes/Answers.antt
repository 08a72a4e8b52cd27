use Rattle.ick_code.specs.Compiled.{code_program}
use Rattle.ick_outcomes_cli.proofs.Giving.{found_line, gives_so, stopped_found, text_found}
use Rattle.ick_outcomes_cli.proofs.dispatch.answer_outcomes.Goals as goal

pub show-requires-clause-line : goal.show-requires-clause-line
show-requires-clause-line g c =
    found_line (code_program c.args.code.now) c.args.input.now c.args.limit c.args.question c.in-Ok.found c.in-Ok.ensures.found

pub returns-in-Ok-clause-gives : goal.returns-in-Ok-clause-gives
returns-in-Ok-clause-gives g c = λ told.
    gives_so c.show.result _ _
    (λ answer h. text_found (code_program c.args.code.now) c.args.input.now c.args.limit c.args.question c.in-Ok.found answer c.in-Ok.ensures.found h)
    (λ line h. stopped_found (code_program c.args.code.now) c.args.input.now c.args.limit c.args.question c.in-Ok.found line c.in-Ok.ensures.found h)
    (c.show.ensures.gives told)
