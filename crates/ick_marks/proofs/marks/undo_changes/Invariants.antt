use Rattle.std.proofs.Common.{drop, reverse, take, vec_len, ◌≡◌}
use Rattle.ick_marks.proofs.Names.{changes_in, HighSame, Like, Rewinds, View, view_in}
use Rattle.ick_runtime.specs.Undo.{rewound}
use Rattle.ick_marks.proofs.marks.undo_changes.Given as goal

abbrev pub invariant-changes : goal.invariant-changes
invariant-changes l = record {
  base : l.trail.base ≡ l.initial.trail.base;
  none : l.trail.kept ≡ 0;
  unset : l.trail.newest ≡ 4294967295;
  kept : take l.changes (changes_in l.trail) ≡ take l.changes (changes_in l.initial.trail);
  leads : (m : View) → Rewinds l.initial.trail.base (changes_in l.initial.trail) l.initial.trail.low l.changes
      (view_in l.initial.memory) m →
      Like l.initial.trail.base m.depth m
      (rewound (reverse (drop l.changes (changes_in l.trail))) (view_in l.memory));
  stays : (m : View) → Rewinds l.initial.trail.base (changes_in l.initial.trail) l.initial.trail.low l.changes
      (view_in l.initial.memory) m →
      HighSame l.initial.trail.base (view_in l.initial.memory)
      (rewound (reverse (drop l.changes (changes_in l.trail))) (view_in l.memory));
}

abbrev pub decreases-changes : goal.decreases-changes
decreases-changes l = vec_len l.trail.entries
