use Rattle.ick_syntax.specs.Programs.{trees_of}
use Rattle.ick_code.specs.Compiled.{code_program}
use Rattle.ick_outcomes_cli.specs.Job.{wanted}
use Rattle.ick_outcomes_cli.specs.Tool.{Stops}
use Rattle.ick_outcomes_cli.proofs.Giving.{gives_refused, gives_so, leaves_nothing, leaves_refused, source_compiled}
use Rattle.ick_outcomes_cli.proofs.Giving.{StopsUnlisted, stop_compiled}
use Rattle.ick_outcomes_cli.proofs.Leaving.{compiled_left, refused_left, where_given_other}
use Rattle.ick_chain.proofs.Progressing.{shows_none}
use Rattle.ick_outcomes_cli.proofs.dispatch.answer_source.Goals as goal

pub returns-in-Err-clause-leaves : goal.returns-in-Err-clause-leaves
returns-in-Err-clause-leaves g c = leaves_refused c.in-Err.refusal c.refused.result _ _ _ c.refused.ensures

pub returns-in-Err-clause-gives : goal.returns-in-Err-clause-gives
returns-in-Err-clause-gives g c = λ listings_told reader_told writer_told.
    gives_refused (wanted c.args.job.now) _ _ _ c.in-Err.refusal c.refused.result _ c.in-Err.ensures.refused
    c.refused.ensures

pub returns-in-Ok-compile-clause-gives : goal.returns-in-Ok-compile-clause-gives
returns-in-Ok-compile-clause-gives g c = λ listings_told reader_told writer_told.
    let job = wanted c.args.job.now in
    let trees = trees_of c.in-Ok.program in
    let program = code_program c.in-Ok-compile.code in
    let source = c.args.source.now in
    let input = g.R.ByteSource.left c.args.reader.now in
    gives_so {M = StopsUnlisted job program input} {N = Stops job source input} c.answer_code.result _ _
    (λ answer h. source_compiled job source input _ trees program answer c.in-Ok.ensures.compiles
    c.in-Ok-compile.ensures.program_is h)
    (λ line h. stop_compiled job source input trees program line c.in-Ok.ensures.compiles c.in-Ok-compile.ensures.program_is h)
    (c.answer_code.ensures.gives listings_told reader_told writer_told)

pub returns-clause-leaves : goal.returns-clause-leaves
returns-clause-leaves g c = leaves_nothing _ _ _

-- what is left in the reader
pub returns-in-Err-clause-left : goal.returns-in-Err-clause-left
returns-in-Err-clause-left g c = λ reader_told.
    refused_left _ _ c.in-Err.refusal c.refused.result c.in-Err.ensures.refused c.refused.ensures

pub returns-in-Ok-compile-clause-left : goal.returns-in-Ok-compile-clause-left
returns-in-Ok-compile-clause-left g c = λ reader_told.
    where_given_other c.answer_code.result _ _
    (λ h. compiled_left c.args.source.now (g.R.ByteSource.left c.args.reader.now)
    (g.R.ByteSource.left c.answer_code.new.reader) (trees_of c.in-Ok.program) c.in-Ok.ensures.compiles h)
    (c.answer_code.ensures.left reader_told)

pub returns-in-Err-clause-shown : goal.returns-in-Err-clause-shown
returns-in-Err-clause-shown g c = shows_none c.args.errors.now

pub returns-clause-shown : goal.returns-clause-shown
returns-clause-shown g c = shows_none c.args.errors.now
