-- Marks over a trail: the states that they stand for, which undoing leads to.
use Rattle.std.specs.Prelude.{ℕ, ◌≡◌, List, [], ◌∷◌, ◌++◌, drop, length, take, reverse}
use Rattle.ick_code.specs.declared.code.Code.{Code}
use Rattle.ick_code.specs.meaning.State.{State}
use Rattle.ick_instructions.specs.declared.lowered.LoweredParts.{LoweredParts}
use Rattle.ick_marks.specs.declared.marks.Mark.{Mark}
use Rattle.ick_runtime.specs.declared.memory.Memory.{Memory}
use Rattle.ick_marks.specs.declared.trail.Trail.{Trail}
use Rattle.ick_marks.specs.TrailChanges.{changes_in}
use Rattle.ick_runtime.specs.Memory.{view_in}
use Rattle.ick_runtime.specs.Steady.{IsReady}
use Rattle.ick_runtime.specs.Undo.{Change, Rewinds, rewound}
use Rattle.ick_runtime.specs.View.{View}
use Rattle.ick_runtime.specs.Inputs.{Input}
use Rattle.ick_machine.specs.declared.trailed.Marked.{Marked}
use Rattle.ick_machine.specs.Run.{run_state}

-- the view after all changes since a mark are undone
abbrev pub marked_view : Mark → List Change → View → View
marked_view mark changes v =
    record (rewound (reverse (drop mark.changes changes)) v) { place = mark.place; depth = mark.depth }

-- the states of a list of marks. The list begins with the newest mark, and the result with the oldest state
abbrev pub marked_states : Code → LoweredParts → Input → List Change → View → List Marked → List State
marked_states code lowered input changes v [] = []
marked_states code lowered input changes v (newest ∷ older) =
    marked_states code lowered input (take newest.mark.changes changes) (marked_view newest.mark changes v) older
    ++ run_state code lowered input (marked_view newest.mark changes v) newest.end ∷ []

-- undoing the new trail from w leads to each view that undoing the old trail from v leads to
abbrev pub Carries : Trail → Trail → View → View → Type 0
Carries old new v w =
    (k : ℕ) (m : View) → Rewinds old.base (changes_in old) old.low k v m →
    Rewinds new.base (changes_in new) new.low k w m

-- the new trail is the old one with a mark at the view v. Nothing else has changed
pub record IsMarked (old new : Trail) (v : View) : Type 0 where
  pub base_same : new.base ≡ old.base
  pub changes_same : changes_in new ≡ changes_in old
  pub low_is : new.low ≡ v.depth
  pub kept_is : new.kept ≡ length (changes_in new)
  pub older : Carries old new v v

-- the mark was made at the view v, so undoing up to the mark leads from v to v
pub record IsMarkOf (t : Trail) (v : View) (mark : Mark) : Type 0 where
  pub place_is : mark.place ≡ v.place
  pub depth_is : mark.depth ≡ v.depth
  pub count : mark.changes ≡ length (changes_in t)
  pub rewinds : Rewinds t.base (changes_in t) t.low mark.changes v v

-- m is the view that was marked: a run can go on from it, and undoing leads from v to a view like m
pub record IsMark (code : Code) (lowered : LoweredParts) (changes : List Change) (low : ℕ) (v : View) (mark : Mark)
    (m : View) : Type 0 where
  pub place_is : m.place ≡ mark.place
  pub depth_is : m.depth ≡ mark.depth
  pub ready : IsReady code lowered m
  pub rewinds : Rewinds lowered.layout.base changes low mark.changes v m

-- undoing leads from v to the newest mark, and from each mark to the next older one. The newest is listed first
abbrev pub AreMarks : Code → LoweredParts → List Change → (low : ℕ) → View → List Marked → Type 0
AreMarks code lowered changes low v [] = Unit {0}
AreMarks code lowered changes low v (newest ∷ older) =
    (m : View) × IsMark code lowered changes low v newest.mark m
    × AreMarks code lowered (take newest.mark.changes changes) m.depth m older

-- the same for a memory and a trail
abbrev pub AreMarksIn : Code → LoweredParts → Trail → Memory → List Marked → Type 0
AreMarksIn code lowered trail memory marks = AreMarks code lowered (changes_in trail) trail.low (view_in memory) marks

abbrev pub marked_in : Code → LoweredParts → Input → Trail → Memory → List Marked → List State
marked_in code lowered input trail memory marks =
    marked_states code lowered input (changes_in trail) (view_in memory) marks

-- every list of marks of the old trail is one of the new trail too, and its states are the same
abbrev pub KeepsMarks : Code → LoweredParts → Trail → Memory → Trail → Memory → Type 0
KeepsMarks code lowered old_trail old trail new =
    (marks : List Marked) → AreMarksIn code lowered old_trail old marks →
    AreMarksIn code lowered trail new marks
    × ((input : Input) →
    marked_in code lowered input trail new marks ≡ marked_in code lowered input old_trail old marks)
