use Rattle.std.proofs.Common.{vec_capacity, vec_len, ℕ, ◌+◌, ◌-◌, ◌≡◌, ◌≤◌}
use Rattle.ick_marks.proofs.Names.{changes_in, Extends, Rewinds, View}
use Rattle.ick_marks.proofs.trail.Trail.keep_returns.Given as goal

abbrev pub invariant-returns : goal.invariant-returns
invariant-returns l = record {
  room : l.self.low ≤ vec_capacity l.self.entries - vec_len l.self.entries;
  used : vec_capacity l.initial.self.entries - vec_len l.initial.self.entries
      ≤ vec_capacity l.self.entries - vec_len l.self.entries + (l.initial.self.low - l.self.low);
  lower : l.self.low ≤ l.initial.self.low;
  base : l.self.base ≡ l.initial.self.base;
  kept : l.self.kept ≡ l.initial.self.kept;
  unset : l.self.newest ≡ 4294967295;
  changes : Extends (changes_in l.initial.self) (changes_in l.self);
  notes : (k : ℕ) (v m : View) → v.returns ≡ l.returns →
      Rewinds l.initial.self.base (changes_in l.initial.self) l.initial.self.low k v m →
      Rewinds l.initial.self.base (changes_in l.self) l.self.low k v m;
}

abbrev pub decreases-returns : goal.decreases-returns
decreases-returns l = l.self.low
