use Rattle.ick_outcomes.proofs.Hushing.{run_heard, share_heard}
use Rattle.ick_outcomes.proofs.laws.runs_are_heard.Goals as goal

pub returns : goal.returns
returns c = λ p s limit. record { runs = run_heard p s limit; weights = share_heard p s limit }
