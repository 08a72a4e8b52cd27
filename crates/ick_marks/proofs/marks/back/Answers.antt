use Rattle.std.proofs.Common.{arith, refl, subst, sym}
use Rattle.ick_marks.proofs.{Names.{HighSame, restored, View, view_in}, Changes.{count_history, nothing_newer}}
use Rattle.ick_marks.{proofs.marks.back.Goals.{else-len-mark, then-len-mark}, specs.TrailChanges.AreUndone}
use Rattle.ick_runtime.proofs.Undoing.{like_moved}
use Rattle.ick_marks.proofs.marks.back.Goals as goal

pub returns : goal.returns
returns c =
    let t = c.args.trail.now in
    let undone : AreUndone t c.if-len-mark.trail c.args.mark.changes (view_in c.args.memory.now)
    (view_in c.if-len-mark.memory) =
    elim c.if-len-mark.branch [
      | then-len-mark w ↦ rw (w.trail-is, w.memory-is) w.undo_changes.ensures
      | else-len-mark w ↦
          rw (w.trail-is, w.memory-is)
          (nothing_newer t c.args.mark.changes _ (omega (arith, w.if-len-mark.false, c.len.ensures, count_history t)))
    ] in
    let v : View =
    record (view_in c.if-len-mark.memory) { place = c.args.mark.place; depth = c.args.mark.depth } in
    record {
      back = λ m place depth marked h.
          restored c.args.program.now.code.now c.args.program.now.parts
          (record { compiled = c.law-2.ensures; lowered_is = c.law.ensures }) (view_in c.args.memory.now) m v
          c.requires.steady.constants marked
          (rw (← c.requires.base) (like_moved c.args.mark.place c.args.mark.depth (undone.leads m h)))
          (subst (λ b. HighSame b (view_in c.args.memory.now) v) c.requires.base (undone.stays m h)) (sym place)
          (sym depth);
      changes = undone.kept;
      low = refl;
      base = undone.base_same;
      kept = grind (arith, count_history);
    }
