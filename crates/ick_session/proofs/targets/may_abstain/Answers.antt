use Rattle.std.proofs.Common.{◌∙◌, sym}
use Rattle.ick_session.specs.Targets.{is_of_abstaining}
use Rattle.ick_session.proofs.StepLaws.{none_more, some_found}
use Rattle.ick_session.proofs.targets.may_abstain.Goals as goal

pub loop-op-preserved : goal.loop-op-preserved
loop-op-preserved c =
    none_more is_of_abstaining c.args.ops.now c.loop-op.op-index _ c.loop-op-test.true c.loop-op.invariant
    (sym c.abstains.ensures ∙ c.if-abstains.false)

pub returns-then-abstains : goal.returns-then-abstains
returns-then-abstains c =
    sym (some_found is_of_abstaining c.args.ops.now c.loop-op.op-index _ c.loop-op-test.true
    (sym c.abstains.ensures ∙ c.if-abstains.true))
