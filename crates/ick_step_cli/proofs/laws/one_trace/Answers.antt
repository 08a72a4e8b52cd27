use Rattle.ick_step_cli.proofs.RunLaws.{has_run, same_trace}
use Rattle.ick_step_cli.proofs.laws.one_trace.Goals as goal

pub returns : goal.returns
returns c = λ f code positions.
    let found = has_run f in
    (found.0, found.1, λ u is. same_trace f code positions found.0 u found.1 is)
