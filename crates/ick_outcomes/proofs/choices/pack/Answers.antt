use Rattle.std.proofs.Common.{refl, ◌∙◌}
use Rattle.ick_outcomes.proofs.Packing.{bits_more, eight}
use Rattle.ick_outcomes.proofs.choices.pack.Goals as goal

pub returns : goal.returns
returns c =
    (bits_more 7 c.doubled-one.result c.doubled.result _ _ c.doubled.ensures.half c.doubled.ensures.odd
    (bits_more 6 c.doubled-two.result c.doubled-one.result _ _ c.doubled-one.ensures.half c.doubled-one.ensures.odd
    (bits_more 5 c.doubled-three.result c.doubled-two.result _ _ c.doubled-two.ensures.half c.doubled-two.ensures.odd
    (bits_more 4 c.doubled-four.result c.doubled-three.result _ _ c.doubled-three.ensures.half c.doubled-three.ensures.odd
    (bits_more 3 c.doubled-five.result c.doubled-four.result _ _ c.doubled-four.ensures.half c.doubled-four.ensures.odd
    (bits_more 2 c.doubled-six.result c.doubled-five.result _ _ c.doubled-five.ensures.half c.doubled-five.ensures.odd
    (bits_more 1 c.doubled-seven.result c.doubled-six.result _ _ c.doubled-six.ensures.half c.doubled-six.ensures.odd
    (bits_more 0 0 c.doubled-seven.result _ _ c.doubled-seven.ensures.half c.doubled-seven.ensures.odd
    refl))))))))
    ∙ eight c.args.choices.now _ c.requires
