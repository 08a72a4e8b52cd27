use Rattle.std.specs.Prelude.{codes}
use Rattle.std.proofs.Common.{◌<◌, ◌≢◌, slice_index_or, ℕ}
use Rattle.ick_outcomes.specs.declared.outcome.Outcome.{Outcome}
use Rattle.ick_outcomes_cli.proofs.exact.has_limit.Given as goal

abbrev pub invariant-loop-at : goal.invariant-loop-at
invariant-loop-at l = (k : ℕ) (d : Outcome) → k < l.at → (slice_index_or l.outcomes k d).end.items ≢ codes "LIMIT"
