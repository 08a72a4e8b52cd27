use Rattle.std.proofs.Common.{subst}
use Rattle.ick_runs.specs.Chosen.{Picks}
use Rattle.ick_runs.proofs.ChosenLaws.{drawn_answer}
use Rattle.ick_runs.proofs.chooser.Picker.pick.Goals as goal

pub returns-in-Seeded-clause-answer : goal.returns-in-Seeded-clause-answer
returns-in-Seeded-clause-answer c = λ chosen h.
    drawn_answer chosen c.args.asked c.args.chance c.next_word.result c.drawn.result c.in-Seeded.generator
    c.next_word.new.self (subst (λ x. Picks chosen c.args.asked x) c.in-Seeded.is h) c.next_word.ensures
    c.drawn.ensures
