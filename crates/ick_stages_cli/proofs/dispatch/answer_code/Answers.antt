use Rattle.std.proofs.Common.{◌∙◌, ap, sym}
use Rattle.ick_stages.specs.Stages.{AreWhole, HasStages, no_line}
use Rattle.ick_stages_cli.specs.Tool.{IsCodeAnswer, is_there, no_statement, no_such, stages}
use Rattle.ick_stages_cli.proofs.Giving.{gives_refusal, gives_lines, leaves_usage, leaves_written}
use Rattle.ick_stages_cli.proofs.dispatch.answer_code.Goals as goal

pub returns-then-not-has_statement-clause-leaves : goal.returns-then-not-has_statement-clause-leaves
returns-then-not-has_statement-clause-leaves g c = leaves_usage no_statement c.none.result _ _ _ c.none.ensures

pub returns-then-not-has_statement-clause-gives : goal.returns-then-not-has_statement-clause-gives
returns-then-not-has_statement-clause-gives g c = λ told.
    gives_refusal (IsCodeAnswer c.args.asked.now c.args.source.now c.args.code.now)
    (AreWhole c.args.code.now c.args.source.now c.args.asked.now) 64 no_statement c.none.result _
    c.none.ensures
    (no_such (ap (is_there c.args.asked.now.only) (sym c.count.ensures)
    ∙ (sym c.has_statement.ensures ∙ c.if-not-has_statement.true)))
    no_line

pub returns-clause-leaves : goal.returns-clause-leaves
returns-clause-leaves g c =
    leaves_written c.write_stages-written.result c.end_of.result _ _ c.end_of.ensures c.write_stages-written.ensures.count

pub returns-clause-gives : goal.returns-clause-gives
returns-clause-gives g c = λ told.
    gives_lines _ (HasStages c.args.code.now c.args.source.now c.args.asked.now) _ _ _ c.write_stages-written.result
    c.end_of.result c.end_of.ensures
    (λ text h. stages text (ap (is_there c.args.asked.now.only) (sym c.count.ensures)
    ∙ (sym c.has_statement.ensures ∙ c.if-not-has_statement.false)) h)
    (c.write_stages-written.ensures.written told)
