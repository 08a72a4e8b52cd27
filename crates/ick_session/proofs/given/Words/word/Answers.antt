use Rattle.std.proofs.Common.{◌≡◌, ◌<◌, ◌∙◌, ap, arith, length}
use Rattle.std.proofs.lemmas.List.{get_or_default}
use Rattle.std.proofs.Props.{props}
use mathlib.Core.Logic.{∥∥₁_elim}
use Rattle.ick_runs.specs.Draws.{word_of}
use Rattle.ick_session.proofs.given.Words.word.Goals as goal

pub returns-clause-is : goal.returns-clause-is
returns-clause-is c =
    let words = c.draw.self in
    let lt : c.args.position < length words.drawn.items = omega (arith, c.draw-test.false, c.len.ensures) in
    let seed : words.seed ≡ c.args.self.now.seed = c.draw.invariant in
    ∥∥₁_elim words.kept (hlevel props) (λ are.
    c.index.ensures
    ∙ (get_or_default words.drawn.items c.args.position c.index.result.now 0 lt
    ∙ (are.words_are c.args.position lt ∙ ap (λ s. word_of s c.args.position) seed)))
