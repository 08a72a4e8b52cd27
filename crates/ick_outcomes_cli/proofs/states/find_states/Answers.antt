use Rattle.std.proofs.Common.{false, refl, sym, true, ◌∙◌, ◌≡◌}
use Rattle.ick_code.specs.Compiled.{code_program}
use Rattle.ick_chain.proofs.Progressing.{shows_more}
use Rattle.ick_outcomes_cli.proofs.states.find_states.Goals as goal

pub returns-in_ok-line-in-Err-clause-found : goal.returns-in_ok-line-in-Err-clause-found
returns-in_ok-line-in-Err-clause-found g c = (
  refl,
  record {
    beyond = λ outcomes. let e : true ≡ false = sym c.requires ∙ outcomes in absurd (cc);
    reason = c.in_ok-line-in-Err.ensures (code_program c.args.code.now) c.args.input.now c.in-Err.ensures.reason;
  },
)

pub returns-in_err-line-in-Err-clause-shown : goal.returns-in_err-line-in-Err-clause-shown
returns-in_err-line-in-Err-clause-shown g c =
    shows_more c.args.errors.now c.search-searched.new.errors c.end_reports.new.progress
    c.search-searched.ensures.shown c.end_reports.ensures

pub returns-in-Ok-clause-shown : goal.returns-in-Ok-clause-shown
returns-in-Ok-clause-shown g c =
    shows_more c.args.errors.now c.search-searched.new.errors c.end_reports.new.progress
    c.search-searched.ensures.shown c.end_reports.ensures

pub returns-in_ok-line-in-Err-clause-shown : goal.returns-in_ok-line-in-Err-clause-shown
returns-in_ok-line-in-Err-clause-shown g c =
    shows_more c.args.errors.now c.search-searched.new.errors c.end_reports.new.progress
    c.search-searched.ensures.shown c.end_reports.ensures
