use Rattle.std.proofs.Common.{[], ap, arith, get_or, length, refl, subst, sym, ◌++◌, ◌+◌, ◌-◌, ◌<◌, ◌∙◌, ◌∷◌, ◌≡◌}
use Rattle.ick_runtime.{proofs.Undoing.notes_return, specs.{declared.change.Entry.TheVariants.Return, Undo.return_was}}
use Rattle.ick_marks.proofs.{Changes.{fixed_moved, grown, newest_alone}, Names.{changes_in, Rewinds}}
use Rattle.ick_instructions.proofs.Extends.{extends_trans}
use Rattle.ick_marks.proofs.trail.Trail.keep_returns.Goals as goal

pub returns-preserved : goal.returns-preserved
returns-preserved c =
    let old = c.returns.invariant in
    let pushed = c.push_reserved.ensures in
    let t = c.returns.self in
    let base = c.args.self.now.base in
    let entry = Return (t.low - 1) (get_or c.args.returns.now (t.low - 1) 0) in
    let next : t.low ≡ t.low - 1 + 1 = omega arith in
    let there : t.low - 1 < length c.args.returns.now = omega (arith, old.lower, c.requires.there, c.requires.stack) in
    record {
      room = omega (arith, old.room, pushed.len, pushed.capacity);
      used = omega (arith, old.room, old.used, old.lower, pushed.len, pushed.capacity);
      lower = omega (arith, old.lower);
      base = old.base;
      kept = old.kept;
      unset = old.unset;
      changes = extends_trans old.changes
          (grown t c.push_reserved.new.self.items t.entries.items entry refl pushed.items);
      notes = λ k v m same h.
          rw (← ap (λ n. changes_in t ++ return_was (t.low - 1) n ∷ []) (ap (λ l. get_or l (t.low - 1) 0) same)
          ∙ sym (newest_alone t c.push_reserved.new.self.items t.entries.items entry refl pushed.items))
          (notes_return base (changes_in t) t.low (t.low - 1) k v m next (omega (arith, there, ap length same))
          (old.notes k v m same h));
    }

pub returns-clause-base : goal.returns-clause-base
returns-clause-base c = let inv = c.returns.invariant in
    fixed_moved c.args.self.now c.returns.self inv.base inv.kept inv.changes

pub returns-clause-notes : goal.returns-clause-notes
returns-clause-notes c = λ k v m same h.
    let inv = c.returns.invariant in (
      omega (arith, inv.kept, h.0),
      subst (λ b. Rewinds b (changes_in c.returns.self) c.returns.self.low k v m) (sym inv.base) (inv.notes k v m same h.1),
    )
