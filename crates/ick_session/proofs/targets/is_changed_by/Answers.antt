use Rattle.std.proofs.Common.{◌≡◌, ◌∙◌, arith, subst, sym, false}
use Rattle.std.specs.List.{list_any}
use Rattle.std.proofs.lemmas.List.{take_all}
use Rattle.ick_code.specs.Compiled.{code_slots}
use Rattle.ick_session.specs.Targets.{changed_name, is_name}
use Rattle.ick_session.proofs.StepLaws.{among_by, none_more, some_found}
use Rattle.ick_session.proofs.targets.is_changed_by.Goals as goal

pub loop-op-preserved : goal.loop-op-preserved
loop-op-preserved c =
    none_more (λ op. is_name c.args.name (changed_name (code_slots c.args.code.now) op)) c.args.ops.now
    c.loop-op.op-index _ c.loop-op-test.true c.loop-op.invariant (sym c.changes.ensures ∙ c.if-changes.false)

pub returns-then-changes : goal.returns-then-changes
returns-then-changes c =
    let slots = code_slots c.args.code.now in
    sym (some_found (λ op. is_name c.args.name (changed_name slots op)) c.args.ops.now c.loop-op.op-index _
    c.loop-op-test.true (sym c.changes.ensures ∙ c.if-changes.true)) ∙ among_by slots c.args.name c.args.ops.now

pub returns : goal.returns
returns c =
    let slots = code_slots c.args.code.now in
    let all = take_all c.loop-op.op-index c.args.ops.now (omega arith) in
    sym (subst (λ ops. list_any (λ op. is_name c.args.name (changed_name slots op)) ops ≡ false) all
    c.loop-op.invariant) ∙ among_by slots c.args.name c.args.ops.now
