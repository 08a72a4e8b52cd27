use Rattle.ick_chain.proofs.Progressing.{shows_more}
use Rattle.ick_outcomes_cli.proofs.exact.find_all.Goals as goal

pub returns-in_err-line-in-Err-clause-shown : goal.returns-in_err-line-in-Err-clause-shown
returns-in_err-line-in-Err-clause-shown g c =
    shows_more c.args.errors.now c.list_states-listed.new.errors c.end_reports.new.progress
    c.list_states-listed.ensures.shown c.end_reports.ensures

pub returns-in-Ok-clause-shown : goal.returns-in-Ok-clause-shown
returns-in-Ok-clause-shown g c =
    shows_more c.args.errors.now c.list_states-listed.new.errors c.end_reports.new.progress
    c.list_states-listed.ensures.shown c.end_reports.ensures

pub returns-in_ok-line-in-Err-clause-shown : goal.returns-in_ok-line-in-Err-clause-shown
returns-in_ok-line-in-Err-clause-shown g c =
    shows_more c.args.errors.now c.list_states-listed.new.errors c.end_reports.new.progress
    c.list_states-listed.ensures.shown c.end_reports.ensures
