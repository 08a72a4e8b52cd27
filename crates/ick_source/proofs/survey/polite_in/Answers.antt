use Rattle.std.proofs.Common.{ap, arith, count_by, ◌∙◌}
use Rattle.ick_source.specs.declared.seen.Seen.{Seen}
use Rattle.ick_source.proofs.SeenLemmas.{polite_same, take_all}
use Rattle.ick_source.proofs.survey.polite_in.Goals as goal

pub returns : goal.returns
returns c = λ trees h.
    let seen = c.args.seen.now in
    let index = c.loop-one.one-index in
    let end = c.loop-one-test.false in
    c.loop-one.invariant.counted
    ∙ ap (count_by (λ (x : Seen). x.statement.polite)) (take_all seen index (omega (arith, end)))
    ∙ polite_same seen trees h.each
