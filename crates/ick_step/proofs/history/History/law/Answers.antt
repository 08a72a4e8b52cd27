use Rattle.ick_step.proofs.MarkLaws.{kept_of}
use Rattle.ick_step.proofs.history.History.law.Goals as goal

pub returns : goal.returns
returns g c =
    let s = c.args.self.now in kept_of (g.M.Backtrack.seen s.machine) s.answers.items s.kept
