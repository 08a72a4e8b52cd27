use Rattle.std.proofs.Common.{◌≡◌, ℕ, ◌<◌, None, get_or}
use Rattle.ick_syntax.specs.declared.body.Gerund.TheVariants.{Calculating}
use Rattle.ick_source.specs.Cursors.{left}
use Rattle.ick_source.specs.Grammar.{past_word}
use Rattle.ick_source.specs.Position.{past_white}
use Rattle.ick_syntax.specs.Gerund.{gerund_word}
use Rattle.ick_source.proofs.part.GerundBodyPart.read.Given as goal

abbrev pub invariant-loop-gerund : goal.invariant-loop-gerund
invariant-loop-gerund l =
    (l.cursor ≡ l.fn.cursor)
    × (l.fn.cursor.refusal ≡ None → (k : ℕ) → k < l.gerund-index →
    past_word (gerund_word (get_or l.gerund-items k Calculating)) (past_white (left l.fn.cursor)) ≡ None)
