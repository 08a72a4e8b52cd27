use Rattle.std.proofs.Common.{[], subst, sym}
use Rattle.std.proofs.lemmas.List.{append-nil}
use Rattle.ick_source.specs.Refusals.{Compiles}
use Rattle.ick_stages_cli.specs.Tool.{compiled, lines_of, no_line}
use Rattle.ick_stages_cli.proofs.Giving.{gives_so}
use Rattle.ick_stages_cli.proofs.dispatch.answer_program.Goals as goal

pub returns-in-Ok-clause-gives : goal.returns-in-Ok-clause-gives
returns-in-Ok-clause-gives g c = λ told.
    gives_so c.answer_code.result _ _
    (λ answer h. compiled c.in-Ok.code answer c.requires.needs
    (subst (λ p. Compiles c.args.source.now p) (sym c.in-Ok.ensures.program_is) c.requires.compiles)
    c.law.ensures h)
    (λ lines h. lines_of c.in-Ok.code lines
    (subst (λ p. Compiles c.args.source.now p) (sym c.in-Ok.ensures.program_is) c.requires.compiles)
    c.law.ensures h)
    (c.answer_code.ensures.gives told)

pub returns-in-Err-clause-gives : goal.returns-in-Err-clause-gives
returns-in-Err-clause-gives g c = λ told. ([], no_line, sym (append-nil _))
