use Rattle.std.proofs.{lemmas.Grind.common_steps, Common.{arith, refl, subst, sym, ◌∙◌}}
use Rattle.ick_marks.proofs.{Names.{AreSame, parts_of, view_in}, Copying.{Fits, kept_fits, kept_loaded}, Saving.put_all}
use Rattle.ick_marks.proofs.{Saving.same_parts_refl, saved.Saved.exchange.Goals.After-law-2}
use Rattle.ick_marks.proofs.saved.Saved.exchange.Goals as goal

-- the lists fit into the memory
fits : (c : After-law-2) → Fits c.args.self.now (view_in c.args.memory.now)
fits c = kept_fits c.args.program.now.code.now c.args.program.now.parts c.args.self.now (view_in c.args.memory.now)
    (record { compiled = c.law-2.ensures; lowered_is = c.law.ensures }) c.requires.kept c.requires.steady

pub put_first-requires : goal.put_first-requires
put_first-requires c = grind (arith, common_steps, fits)

pub put_first-requires-2 : goal.put_first-requires-2
put_first-requires-2 c = grind (arith, common_steps, fits)

pub copy_from_slice-requires : goal.copy_from_slice-requires
copy_from_slice-requires c = grind (arith, common_steps, fits)

pub copy_from_slice-requires-2 : goal.copy_from_slice-requires-2
copy_from_slice-requires-2 c = grind (arith, common_steps, fits)

pub returns-clause-loaded : goal.returns-clause-loaded
returns-clause-loaded c =
    let f = fits (goal.at.returns-clause-loaded c).After-law-2 in
    let saved = c.args.self.now in
    let memory = c.args.memory.now in
    kept_loaded c.args.program.now.code.now c.args.program.now.parts saved (view_in memory) _
    (record { compiled = c.law-2.ensures; lowered_is = c.law.ensures }) c.requires.kept c.requires.steady
    (put_all saved.numbers.items memory.registers.items c.put_first.new.numbers memory.registers.len
    (rw (c.deref.ensures.value, c.as_mut_slice.ensures.value) at c.put_first.ensures) f.numbers memory.registers.ok.0)
    (put_all saved.returns.items memory.returns.items c.put_first-2.new.numbers memory.returns.len
    (rw (c.deref-2.ensures.value, c.as_mut_slice-2.ensures.value) at c.put_first-2.ensures) f.returns
    memory.returns.ok.0)
    (c.copy_from_slice.ensures.items ∙ c.deref-3.ensures.value)
    (c.copy_from_slice-2.ensures.items ∙ c.deref-4.ensures.value) refl (c.len-memory.ensures ∙ saved.returns.ok.0)
    (subst (λ r. AreSame (parts_of saved.rest) (parts_of r)) (sym c.swap.ensures.x_after) (same_parts_refl _))
