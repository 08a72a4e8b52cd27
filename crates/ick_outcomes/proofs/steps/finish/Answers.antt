use Rattle.std.proofs.Common.{refl, subst}
use Rattle.ick_backtrack.specs.Asked.{finish_of}
use Rattle.ick_outcomes.specs.Accounts.{Counts}
use Rattle.ick_outcomes.specs.Seen.{pending_of, rows_of}
use Rattle.ick_outcomes.proofs.Searching.{adds_row}
use Rattle.ick_outcomes.proofs.steps.finish.Goals as goal

pub returns : goal.returns
returns g c =
    let seen = g.P.States.seen c.args.program.now in
    adds_row seen (g.P.States.suits c.args.program.now) (pending_of seen c.args.node) (finish_of c.args.end)
    c.args.search.now _ c.requires.filed c.requires.over
    (subst (λ r. Counts (rows_of c.args.search.now.table.rows.items) r (rows_of c.add_outcome.new.table.rows.items))
    c.in_ok-row.ensures c.in_ok-add_outcome.ensures) refl refl
