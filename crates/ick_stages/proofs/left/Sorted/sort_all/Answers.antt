use Rattle.std.proofs.Common.{◌≡◌, ◌∙◌, ap, arith, length}
use Rattle.ick_stages.specs.Left.{sorted_first}
use Rattle.ick_stages.specs.Steps.{made_of}
use Rattle.ick_stages.proofs.LeftLaws.{sorted_more}
use Rattle.ick_stages.proofs.left.Sorted.sort_all.Goals as goal

pub loop-at-preserved : goal.loop-at-preserved
loop-at-preserved c =
    sorted_more c.args.draft.now.instructions.items (made_of c.args.makers.now).first c.args.kept.now c.loop-at.at
    c.loop-at.invariant c.instruction_at.ensures c.next-next.ensures c.maker_at.ensures c.in_ok-sort.ensures

pub returns : goal.returns
returns c =
    let is : c.loop-at.at ≡ length c.args.draft.now.instructions.items =
    omega (arith, c.loop-at-test.false, c.loop-at.auto.at-end, c.len-at-end.ensures) in
    c.loop-at.invariant ∙ ap (sorted_first c.args.draft.now.instructions.items (made_of c.args.makers.now).first
    c.args.kept.now) is
