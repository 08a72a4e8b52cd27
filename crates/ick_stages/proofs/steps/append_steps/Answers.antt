use Rattle.std.proofs.Common.{◌≡◌, ◌+◌, ap, arith, length, refl, rules, subst, take_all, ◌∙◌}
use Rattle.ick_code.specs.Compiled.{code_program, code_slots}
use Rattle.ick_lowering.proofs.Names.{extends_trans}
use Rattle.ick_lowering.proofs.Statements.{lists_of_operations}
use Rattle.ick_stages.specs.Steps.{HasSteps, made_of}
use Rattle.ick_lowering.proofs.{Gains.gains_trans, Statements.operands_next, Statements.operands_there, Statements.reached_next}
use Rattle.ick_stages.proofs.StepLaws.{made_first, steps_next, steps_none}
use Rattle.ick_stages.proofs.steps.append_steps.Goals as goal

pub append_next-requires-clause-operands : goal.append_next-requires-clause-operands
append_next-requires-clause-operands c =
    let lowers = c.requires.lowers in
    operands_there c.ops-ops.result.now c.loop-op.op-index _ c.loop-op.draft c.loop-op-test.true (rw c.ops-ops.ensures.ops lowers.finds)
    c.loop-op.invariant.count

pub loop-op-preserved : goal.loop-op-preserved
loop-op-preserved c =
    let lowers = c.requires.lowers in
    let are = c.ops-ops.ensures.ops in
    let next = c.in_ok-append_next.ensures in
    let a = next.follows in
    let before = c.loop-op.invariant in
    let number : c.loop-op.number + 1 ≡ c.loop-op.op-index + 1 = omega (arith, before.number) in
    let reached = reached_next _ _ _ c.ops-ops.result.now c.loop-op.op-index _ c.loop-op.draft _ c.loop-op-test.true
    lowers.laid (omega (arith, lowers.room, ap length are)) (rw are lowers.named) (rw are lowers.finds)
    before.reached a in
    record {
      reached = reached;
      used = omega (arith, a.used);
      count = operands_next c.ops-ops.result.now c.loop-op.op-index _ c.loop-op.draft c.append_next.new.draft
          c.loop-op-test.true (rw are lowers.finds) before.count a.count;
      subscripts = extends_trans before.subscripts a.subscripts;
      constants = gains_trans before.constants a.constants;
      number = number;
      steps = steps_next c.args.asked c.ops-ops.result.now c.loop-op.op-index _ c.loop-op-test.true before.steps a reached
          (c.loop-op.number + 1) number next.made next.added;
    }

pub loop-op-init : goal.loop-op-init
loop-op-init c = record {
  reached = search (rules, lists_of_operations);
  used = omega arith;
  count = ap length c.clear-2.ensures.items;
  subscripts = search (rules, lists_of_operations);
  constants = search (rules, lists_of_operations);
  number = refl;
  steps = steps_none c.args.asked c.args.draft.now _ c.args.text.now _
      (record {
        instructions = c.clear.ensures.items;
        stack = c.clear-2.ensures.items;
        used = refl;
        subscripts = refl;
        constants = refl;
      })
      (ap made_first c.clear-3.ensures.items);
}

pub returns-clause-steps : goal.returns-clause-steps
returns-clause-steps c =
    let whole = take_all c.loop-op.op-index c.ops-ops.result.now (omega (arith, c.loop-op-test.false)) in
    subst (λ ops. HasSteps (code_program c.args.code.now) (code_slots c.args.code.now) c.args.layout c.args.asked ops
    c.args.draft.now c.loop-op.draft c.args.text.now c.loop-op.text (made_of c.loop-op.makers))
    (whole ∙ c.ops-ops.ensures.ops) c.loop-op.invariant.steps
