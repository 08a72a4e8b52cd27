use Rattle.std.proofs.Common.{◌≡◌, ◌∙◌, ap, arith, length, sym}
use Rattle.std.specs.List.{flat_map, range_with_len}
use Rattle.ick_inspect.proofs.AddLaws.{pieces_more, same, then}
use Rattle.ick_stages.specs.Left.{instructions_text, line_at}
use Rattle.ick_stages.specs.Registers.{names_of}
use Rattle.ick_stages.specs.Steps.{made_of}
use Rattle.ick_stages.proofs.LeftLaws.{line_is}
use Rattle.ick_stages.proofs.TextLaws.{numbers_more}
use Rattle.ick_stages.proofs.left.append_instructions.Goals as goal

pub loop-at-preserved : goal.loop-at-preserved
loop-at-preserved c =
    let at = c.loop-at.at in
    let piece = line_at (names_of c.args.registers.now) (made_of c.args.makers.now) c.args.left.now c.args.kept.now in
    same (sym (ap (flat_map piece) (numbers_more at) ∙ pieces_more piece (range_with_len 0 at) at))
    (then c.loop-at.invariant (same (line_is _ _ _ _ _ _ c.left_at-from.ensures c.loop-at-test.true) c.append_left_line.ensures))

pub returns : goal.returns
unfolding instructions_text
returns c =
    let is : c.loop-at.at ≡ length c.args.kept.now = omega (arith, c.loop-at-test.false, c.loop-at.auto.at-end) in
    same (ap (λ n. flat_map (line_at (names_of c.args.registers.now) (made_of c.args.makers.now) c.args.left.now
    c.args.kept.now) (range_with_len 0 n)) is) c.loop-at.invariant
