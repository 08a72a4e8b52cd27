use Rattle.ick_backtrack.specs.Asked.{finish_of}
use Rattle.ick_outcomes.proofs.AskerLaws.{ended_at}
use Rattle.ick_outcomes.proofs.following.asks_within.Goals as goal

pub returns-in-Ended : goal.returns-in-Ended
returns-in-Ended g c = ended_at _ _ _ (finish_of c.in-Ended.end) c.in-Ended.ensures
