use Rattle.std.proofs.Common.{◌≡◌, ◌∙◌, ap, arith, sym}
use Rattle.std.specs.List.{flat_map, range_with_len}
use Rattle.ick_inspect.proofs.AddLaws.{nothing, pieces_more, same, then}
use Rattle.ick_stages.proofs.TextLaws.{numbers_more}
use Rattle.ick_stages.specs.Values.{chosen_entry, chosen_text}
use Rattle.ick_stages.proofs.value.append_chosen.Goals as goal

pub loop-at-init : goal.loop-at-init
loop-at-init c = nothing c.args.text.now

pub loop-at-preserved : goal.loop-at-preserved
loop-at-preserved c =
    let at = c.loop-at.at in
    let piece = chosen_entry c.args.table.now c.args.mask in
    same (sym (ap (flat_map piece) (numbers_more at) ∙ pieces_more piece (range_with_len 0 at) at))
    (then c.loop-at.invariant c.append_choice.ensures)

pub returns : goal.returns
unfolding chosen_text
returns c =
    let is : c.loop-at.at ≡ 16 = omega (arith, c.loop-at-test.false, c.loop-at.auto.at-end) in
    same (ap (λ n. flat_map (chosen_entry c.args.table.now c.args.mask) (range_with_len 0 n)) is) c.loop-at.invariant
