use Rattle.std.proofs.Common.{◌∙◌, Some, ap, refl, sym}
use Rattle.std.proofs.lemmas.List.{drop_all}
use Rattle.ick_stages.specs.Faults.{faulty_in}
use Rattle.ick_stages.proofs.FaultLaws.{faulty_no, faulty_yes}
use Rattle.ick_stages.proofs.fault.part_of.Goals as goal

pub loop-mark-init : goal.loop-mark-init
loop-mark-init c = refl

pub loop-mark-preserved : goal.loop-mark-preserved
loop-mark-preserved c =
    faulty_no _ _ c.args.marks.now c.loop-mark.mark-index _ c.loop-mark-test.true
    (sym c.is_faulty.ensures ∙ c.if-is_faulty.false) c.loop-mark.invariant

pub returns-then-is_faulty : goal.returns-then-is_faulty
returns-then-is_faulty c =
    ap Some c.span_of.ensures
    ∙ sym (faulty_yes _ _ c.args.marks.now c.loop-mark.mark-index _ c.loop-mark-test.true
    (sym c.is_faulty.ensures ∙ c.if-is_faulty.true) c.loop-mark.invariant)

pub returns : goal.returns
returns c =
    sym (c.loop-mark.invariant
    ∙ ap (faulty_in c.args.source.now c.args.kind) (drop_all c.loop-mark.mark-index c.args.marks.now c.loop-mark-test.false))
