use Rattle.ick_backtrack.specs.Asked.{finish_of}
use Rattle.ick_outcomes.specs.Programs.{ask}
use Rattle.ick_chain.proofs.Ranking.{ranked_row}
use Rattle.ick_chain.proofs.rows.row_at.Goals as goal

pub returns-in_ok-row-in-Ended-clause-ranked : goal.returns-in_ok-row-in-Ended-clause-ranked
returns-in_ok-row-in-Ended-clause-ranked g c =
    λ e node asks.
    let s = (g.P.States.seen c.args.program.now c.args.state.now).state in
    ranked_row (finish_of c.in-Ended.end) (ask (g.P.States.text c.args.program.now) s) e c.in_ok-row-in-Ended.row
    s.output c.args.rank c.in-Ended.ensures asks c.in_ok-row-in-Ended.ensures.output c.in_ok-row-in-Ended.ensures.end
    c.in_ok-row-in-Ended.ensures.rank
