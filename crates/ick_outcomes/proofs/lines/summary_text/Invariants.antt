use Rattle.std.proofs.Common.{take, IfSome}
use Rattle.ick_outcomes.specs.Buffered.{AreTexts}
use Rattle.ick_outcomes.specs.Lines.{AreLines}
use Rattle.ick_outcomes.proofs.lines.summary_text.Given as goal

abbrev pub invariant-outcomes : goal.invariant-outcomes
invariant-outcomes l =
    AreLines l.exact l.silent (take l.outcome-index l.outcomes) l.text.items
    × IfSome l.last (λ o.
    AreTexts l.exact o.now l.texts.count.text.items l.texts.weight.text.items l.texts.output.items)
