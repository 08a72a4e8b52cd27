use Rattle.std.proofs.Common.{◌≡◌, ◌-◌, ◌+◌, length}
use Rattle.ick_session.proofs.given.Words.word.Given as goal

abbrev pub invariant-draw : goal.invariant-draw
invariant-draw l = l.self.seed ≡ l.initial.self.seed

abbrev pub decreases-draw : goal.decreases-draw
decreases-draw l = l.position + 1 - length l.self.drawn.items
