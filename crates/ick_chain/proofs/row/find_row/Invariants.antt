use Rattle.std.proofs.Common.{◌<◌, slice_index_or, ℕ}
use Rattle.ick_chain.specs.Rows.{AreApart, row_of}
use Rattle.ick_chain.specs.declared.row.Row.{Row}
use Rattle.ick_chain.proofs.row.find_row.Given as goal

abbrev pub invariant-loop-at : goal.invariant-loop-at
invariant-loop-at l = (k : ℕ) (d : Row) → k < l.at → AreApart (row_of (slice_index_or l.rows k d)) (row_of l.more)
