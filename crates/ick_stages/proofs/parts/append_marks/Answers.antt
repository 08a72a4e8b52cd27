use Rattle.std.proofs.Common.{◌∙◌, arith, ap, refl, take, take_all}
use Rattle.std.proofs.lemmas.List.{length-take}
use Rattle.ick_inspect.proofs.AddLaws.{nothing, same, then}
use Rattle.ick_stages.specs.Parts.{parts_from}
use Rattle.ick_stages.proofs.PartLaws.{counts_few, counts_taken, parts_taken}
use Rattle.ick_stages.proofs.parts.append_marks.Goals as goal

pub loop-mark-init : goal.loop-mark-init
loop-mark-init c = record { number = refl; added = nothing _ }

pub loop-mark-preserved : goal.loop-mark-preserved
loop-mark-preserved c =
    let marks = c.args.marks.now in
    let at = c.loop-mark.mark-index in
    let before = c.loop-mark.invariant in
    record {
      number = c.append_mark-number.ensures.count ∙ counts_taken marks at _ _ c.loop-mark-test.true before.number;
      added = same (parts_taken c.args.start marks c.args.all at _ _ c.loop-mark-test.true before.number)
          (then before.added c.append_mark-number.ensures.added);
    }

pub append_mark-number-requires : goal.append_mark-number-requires
append_mark-number-requires c =
    let few = counts_few (take c.loop-mark.mark-index c.args.marks.now) in
    let size = length-take c.loop-mark.mark-index c.args.marks.now in
    let test = c.loop-mark-test.true in
    omega (arith, c.loop-mark.invariant.number)

pub returns : goal.returns
returns c =
    same (ap (λ l. parts_from 0 c.args.start l c.args.all) (take_all _ c.args.marks.now c.loop-mark-test.false))
    c.loop-mark.invariant.added
