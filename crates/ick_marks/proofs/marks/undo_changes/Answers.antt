use Rattle.std.proofs.Common.{arith, length, length-append, option_to_list, sym, take, take_all, ◌++◌, ◌∷◌, ◌≡◌, ◌≤◌, [], ap, ◌∙◌}
use Rattle.ick_marks.proofs.Names.{all_undone, changes_in, HighSame, Like, take-append-le, view_in}
use Rattle.ick_marks.proofs.Changes.{count_history, newest_undone}
use Rattle.ick_runtime.proofs.Undoing.{undone_one}
use Rattle.ick_marks.proofs.marks.undo_changes.Goals as goal

pub returns : goal.returns
returns c =
    let inv = c.changes.invariant in
    let all = changes_in c.changes.trail in
    let last = view_in c.changes.memory in
    let few : length all ≤ c.args.changes =
    omega (arith, c.changes-test.false, c.len.ensures, count_history c.changes.trail) in
    record {
      kept = sym (take_all c.args.changes all few) ∙ inv.kept;
      base_same = inv.base;
      leads = λ m h. all_undone (Like c.args.trail.now.base m.depth m) all c.args.changes last few (inv.leads m h);
      stays = λ m h.
          all_undone (HighSame c.args.trail.now.base (view_in c.args.memory.now)) all c.args.changes last few
          (inv.stays m h);
    }

pub changes-preserved-in-Some : goal.changes-preserved-in-Some
changes-preserved-in-Some c =
    let inv = c.changes.invariant in
    let base = c.args.trail.now.base in
    let mark = c.args.changes in
    let undone = c.undo_newest.ensures.undone in
    let all = changes_in c.changes.trail in
    let rest = changes_in c.undo_newest.new.trail in
    let are : all ≡ rest ++ undone.change ∷ [] =
    newest_undone c.changes.trail.entries.items _ c.undo_newest.new.trail c.in-Some.entry (view_in c.changes.memory)
    (view_in c.undo_newest.new.memory) undone
    (c.pop.ensures.items ∙ ap (λ o. c.pop.new.self.items ++ option_to_list o) c.in-Some.is)
    c.undo_newest.ensures.entries in
    let within : mark ≤ length rest =
    omega (
      arith,
      c.changes-test.true,
      c.len.ensures,
      count_history c.changes.trail,
      ap length are,
      length-append rest (undone.change ∷ []),
    ) in
    record {
      base = c.undo_newest.ensures.base ∙ inv.base;
      none = c.undo_newest.ensures.kept ∙ inv.none;
      unset = c.undo_newest.ensures.newest ∙ inv.unset;
      kept = sym (ap (take mark) are ∙ take-append-le mark rest (undone.change ∷ []) within) ∙ inv.kept;
      leads = λ m h. undone_one (Like base m.depth m) all rest undone.change mark (view_in c.changes.memory)
          (view_in c.undo_newest.new.memory) are within undone.view_is (inv.leads m h);
      stays = λ m h.
          undone_one (HighSame base (view_in c.args.memory.now)) all rest undone.change mark (view_in c.changes.memory)
          (view_in c.undo_newest.new.memory) are within undone.view_is (inv.stays m h);
    }
