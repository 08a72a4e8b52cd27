use Rattle.std.proofs.Common.{arith}
use Rattle.ick_chain.proofs.WordLaws.{least_all}
use Rattle.ick_chain.proofs.words.are_least.Goals as goal

pub returns-clause-least : goal.returns-clause-least
returns-clause-least c =
    λ _. let zero = c.if-label_at-ne0.false in
    let stop = c.nodes-test.false in
    least_all c.args.nodes.now c.args.labels.now c.nodes.at c.label_at.result
    (rw c.deref-else-not-are_words.ensures.value at c.label_at.ensures) (omega (arith, zero)) (omega (arith, stop))
    c.nodes.invariant
