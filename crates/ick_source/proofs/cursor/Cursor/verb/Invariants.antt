use Rattle.std.proofs.Common.{◌≡◌, ℕ, ◌<◌, None, get_or}
use Rattle.ick_source.specs.declared.verb.Verb.TheVariants.{Forget}
use Rattle.ick_source.specs.Cursors.{left}
use Rattle.ick_source.specs.Grammar.{past_word}
use Rattle.ick_source.specs.Position.{past_white}
use Rattle.ick_source.specs.Verb.{verb_word}
use Rattle.ick_source.proofs.cursor.Cursor.verb.Given as goal

abbrev pub invariant-loop-verb : goal.invariant-loop-verb
invariant-loop-verb l =
    (l.self ≡ l.fn.self)
    × (l.fn.self.refusal ≡ None → (k : ℕ) → k < l.verb-index →
    past_word (verb_word (get_or l.verb-items k Forget)) (past_white (left l.fn.self)) ≡ None)
