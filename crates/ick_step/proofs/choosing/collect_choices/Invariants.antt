use Rattle.std.proofs.Common.{◌≡◌, take}
use Rattle.ick_step.specs.History.{choices_in}
use Rattle.ick_step.proofs.choosing.collect_choices.Given as goal

abbrev pub invariant-loop-answer : goal.invariant-loop-answer
invariant-loop-answer l = l.choices.items ≡ choices_in (take l.answer-index l.answers)
