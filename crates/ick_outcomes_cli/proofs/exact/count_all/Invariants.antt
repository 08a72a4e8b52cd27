use Rattle.std.proofs.Common.{◌≡◌, take}
use Rattle.ick_numbers.specs.Values.{natural}
use Rattle.ick_outcomes.specs.Seen.{rows_of}
use Rattle.ick_outcomes.specs.Summaries.{count_of}
use Rattle.ick_outcomes_cli.proofs.exact.count_all.Given as goal

abbrev pub invariant-outcomes : goal.invariant-outcomes
invariant-outcomes l = natural l.sum ≡ count_of (rows_of (take l.outcome-index l.outcomes))
