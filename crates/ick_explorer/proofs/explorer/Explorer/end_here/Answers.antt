use Rattle.std.proofs.Common.{inl, inr}
use Rattle.ick_explorer.proofs.RunLaws.{ends_limit}
use Rattle.ick_explorer.proofs.Walking.{asks_end, asks_going}
use Rattle.ick_explorer.proofs.explorer.Explorer.end_here.Goals as goal

pub returns-in-Ended : goal.returns-in-Ended
returns-in-Ended g c = λ limit n _.
    asks_end c.asks.result c.in-Ended.end limit n (g.M.Backtrack.seen c.args.self.now.machine) c.in-Ended.is
    c.asks.ensures

pub returns-in_default : goal.returns-in_default
returns-in_default g c = λ limit n over.
    let m = g.M.Backtrack.seen c.args.self.now.machine in
    let going = asks_going c.asks.result m c.in_default.not-Ended c.asks.ensures in
    elim over [
      | inl stopped ↦ absurd (stopped going)
      | inr at ↦ ends_limit limit m n at going
    ]
