use Rattle.ick_explorer.proofs.RunLaws.{steps_within, whole-short}
use Rattle.ick_explorer.proofs.laws.runs_are_limited.Goals as goal

pub returns : goal.returns
returns c = λ p s limit. record { steps = steps_within p s limit; choices = whole-short p s limit }
