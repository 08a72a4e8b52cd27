use Rattle.std.proofs.Common.{arith}
use Rattle.ick_outcomes.proofs.Existence.{summary-exists}
use Rattle.ick_outcomes.proofs.Unique.{summary-unique}
use Rattle.ick_outcomes.proofs.laws.one_summary.Goals as goal

pub returns : goal.returns
returns c = λ p s limit. record {
  some = λ lt. summary-exists p s limit (omega (arith, lt));
  unique = summary-unique p s limit;
}
