use Rattle.ick_chain.proofs.RowTables.{no_row_at}
use Rattle.ick_chain.proofs.row.find_row.Goals as goal

pub returns-clause-no_row : goal.returns-clause-no_row
returns-clause-no_row c =
    no_row_at c.args.rows.now c.args.more.now c.loop-at.at c.loop-at-test.false c.loop-at.invariant
