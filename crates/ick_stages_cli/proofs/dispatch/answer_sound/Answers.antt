use Rattle.std.proofs.Common.{◌∙◌, sym}
use Rattle.ick_stages.specs.Listed.{AreSome, HasListed, no_seen, some_seen}
use Rattle.ick_stages_cli.specs.Tool.{IsListedAnswer, no_statement, not_there, statements}
use Rattle.ick_stages_cli.proofs.Giving.{gives_lines, gives_refusal, leaves_usage, leaves_written}
use Rattle.ick_stages_cli.proofs.dispatch.answer_sound.Goals as goal

pub returns-then-not-has_statement-clause-leaves : goal.returns-then-not-has_statement-clause-leaves
returns-then-not-has_statement-clause-leaves g c = leaves_usage no_statement c.none.result _ _ _ c.none.ensures

pub returns-then-not-has_statement-clause-gives : goal.returns-then-not-has_statement-clause-gives
returns-then-not-has_statement-clause-gives g c = λ told.
    gives_refusal (IsListedAnswer c.args.asked.now c.args.source.now c.args.seen.now c.args.faults.now)
    (AreSome c.args.source.now c.args.seen.now c.args.faults.now c.args.asked.now) 64 no_statement c.none.result _
    c.none.ensures
    (not_there c.requires.faultless (sym c.has_statement.ensures ∙ c.if-not-has_statement.true))
    (some_seen 0 _ no_seen)

pub returns-clause-leaves : goal.returns-clause-leaves
returns-clause-leaves g c =
    leaves_written c.write_listed-written.result c.end_of.result _ _ c.end_of.ensures c.write_listed-written.ensures.count

pub returns-clause-gives : goal.returns-clause-gives
returns-clause-gives g c = λ told.
    gives_lines _ (HasListed c.args.source.now c.args.seen.now c.args.faults.now c.args.asked.now) _ _ _ c.write_listed-written.result
    c.end_of.result c.end_of.ensures
    (λ text h. statements text c.requires.faultless (sym c.has_statement.ensures ∙ c.if-not-has_statement.false) h)
    (c.write_listed-written.ensures.written told)
