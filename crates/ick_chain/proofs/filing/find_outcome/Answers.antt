use Rattle.std.proofs.Common.{subst, IfSome, IfNone, slice_index_or}
use Rattle.std.specs.List.{Contains}
use Rattle.ick_chain.specs.Rows.{AreApart, Row, SameRow, row_of, rows_of}
use Rattle.ick_outcomes.specs.Keys.{Lacks}
use Rattle.ick_chain.specs.declared.row.Row.{Row as Kept}
use Rattle.ick_chain.proofs.RowTables.{apart_by_key}
use Rattle.ick_chain.proofs.filing.find_outcome.Goals as goal

pub returns-else-at-len-clause-some : goal.returns-else-at-len-clause-some
returns-else-at-len-clause-some c =
    subst (λ z. IfSome c.find_row.result (λ i. (d : Kept) →
    SameRow (row_of (slice_index_or z i d)) (row_of c.args.more.now))) c.deref.ensures.value c.find_row.ensures.some

pub returns-else-at-len-clause-no_row : goal.returns-else-at-len-clause-no_row
returns-else-at-len-clause-no_row c =
    subst (λ z. IfNone c.find_row.result ((x : Row) → Contains (rows_of z) x → AreApart x (row_of c.args.more.now)))
    c.deref.ensures.value c.find_row.ensures.no_row

pub returns-in-None-clause-no_row : goal.returns-in-None-clause-no_row
returns-in-None-clause-no_row c =
    apart_by_key c.args.table.now.index.rows c.args.table.now.rows.items c.args.more.now c.args.table.now.indexed
    (subst (λ k. Lacks c.args.table.now.index.rows k) c.requires c.in-None.ensures)
