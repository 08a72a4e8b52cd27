use Rattle.std.proofs.Common.{ap, map, refl, ◌∙◌}
use Rattle.ick_marks.{proofs.Names.arrays_on, proofs.Names.numbers_on, proofs.Saving.rest_same, specs.Saved.flagged}
use Rattle.ick_marks.proofs.copy.copy_rest.Goals as goal

pub returns : goal.returns
returns c =
    rest_same c.args.rest.now (record {
      arrays = c.in_ok-copy_all.field-0;
      scalar_stashes = c.in_ok-copy_all-2.field-0;
      array_stashes = c.in_ok-copy_all-3.field-0;
      taken = c.args.rest.now.taken;
      output = c.in_ok-from_slice.field-0;
      last = c.args.rest.now.last;
      lastin = c.args.rest.now.lastin;
    }) (c.in_ok-copy_all.ensures ∙ ap (map flagged) c.deref.ensures.value)
    (c.in_ok-copy_all-2.ensures ∙ ap (map numbers_on) c.deref-2.ensures.value)
    (c.in_ok-copy_all-3.ensures ∙ ap (map arrays_on) c.deref-3.ensures.value) refl
    (c.in_ok-from_slice.ensures.items ∙ c.deref-4.ensures.value) refl refl
