use Rattle.std.proofs.Common.{◌≡◌, ◌+◌, ◌-◌, ◌≤◌, [], inl, inr, refl, ap, sym, ◌∙◌, subst, take, arith, rules}
use Rattle.std.specs.Prelude.{◌⊎◌, reverse, vec_capacity, vec_len}
use Rattle.ick_code.specs.meaning.Move.{advance}
use Rattle.ick_backtrack.specs.Steps.{IsPlain, RunsOn}
use Rattle.ick_marks.specs.{declared.{marks.Mark.Mark, trail.Trail.Trail}, TrailChanges.{changes_in, fixed_by}}
use Rattle.ick_runtime.specs.{declared.memory.Memory.Memory, Memory.view_in, Steady.IsProgram, Undo.IsRestored}
use Rattle.ick_runtime.specs.Inputs.{input_of}
use Rattle.ick_machine.proofs.{FedLemmas.no_items, Marks.{AreKept, run_same}, WholeLemmas.{always_err, by_text}}
use Rattle.ick_machine.proofs.{WholeLemmas.{keeps_marks, marks_over}, TrailMarks.{Follows, SameTrail, depth_restored}}
use Rattle.ick_machine.proofs.TrailMarks.{mark_then, marked_marks, marked_then, noted_marks, restored_by, same_kept}
use Rattle.ick_machine.proofs.{TrailMarks.undone_marks, trailed.Trailed.make_whole.Goals.After-make_mark-mark}
use Rattle.ick_machine.proofs.trailed.Trailed.make_whole.Goals.{After-make_room, After-make_steps, After-back}
use Rattle.ick_machine.proofs.trailed.Trailed.make_whole.Goals.{then-is_empty, else-is_empty}
use Rattle.ick_machine.proofs.trailed.Trailed.make_whole.Goals.{then-not-has_room+in_ok-make_room, else-not-has_room}
use Rattle.ick_machine.specs.{declared.trailed.Trailed.Trailed, Marks.{AreMarksIn, IsMarked, IsMarkOf, KeepsMarks}}
use Rattle.ick_machine.specs.{Marks.marked_in, RunIn.{CanRun, program_of, state_in}, Seen.trailed_machine}
use Rattle.ick_machine.proofs.trailed.Trailed.make_whole.Goals as goal

-- a trail that a machine goes on with: its own, or another one if nothing is marked
abbrev GoesOnWith : Trailed → Trail → Type 0
GoesOnWith m t = (t.base ≡ m.trail.base) × ((t ≡ m.trail) ⊎ (m.marks.items ≡ []))

-- a trail on which the machine's state was marked, to go back to
record IsReadied (m : Trailed) (t : Trail) (mark : Mark) : Type 0 where
  before : Trail
  goes : GoesOnWith m before
  marked : IsMarked before t (view_in m.memory)
  of : IsMarkOf t (view_in m.memory) mark

-- more room changes nothing else
roomier : (m : Trailed) (t new : Trail) (mark : Mark) → IsReadied m t mark → fixed_by new ≡ fixed_by t →
    changes_in new ≡ changes_in t → new.low ≡ t.low → IsReadied m new mark
roomier m t new mark r fixed changes low =
    let v = view_in m.memory in
    let same : SameTrail t new =
    record { base_same = ap (λ f. f.base) fixed; changes_same = changes; low_same = low } in
    record {
      before = r.before;
      goes = r.goes;
      marked = marked_then r.before t new v r.marked same (same_kept t new r.marked.kept_is fixed changes);
      of = mark_then t new v mark r.of same;
    }

module _ (m : Trailed) (t : Trail) (mark : Mark) (can : CanRun m.lowered m.trail m.memory)
    (is : IsProgram m.lowered.code.now m.lowered.parts) (r : IsReadied m t mark) where
  base : r.before.base ≡ m.lowered.parts.layout.base
  base = r.goes.0 ∙ can.base

  -- the machine's marks stay in a call that keeps the marks of the trail
  kept : (last : Trail) (new : Memory) → KeepsMarks m.lowered.code.now m.lowered.parts r.before m.memory last new →
      ∥ AreMarksIn m.lowered.code.now m.lowered.parts last new (reverse m.marks.items) ∥₁
      × (marks_over m last new ≡ marks_over m m.trail m.memory)
  kept last new keeps = elim r.goes.1 [
    | inl same ↦
        keeps_marks m last new
        (subst (λ x. KeepsMarks m.lowered.code.now m.lowered.parts x m.memory last new) same keeps)
    | inr none ↦
        let code = m.lowered.code.now in
        let input = input_of m.input.now in
        let empty = ap reverse none in (
          ∣ subst (AreMarksIn code m.lowered.parts last new) (sym empty) tt ∣₁,
          ap (marked_in code m.lowered.parts input last new) empty
              ∙ sym (ap (marked_in code m.lowered.parts input m.trail m.memory) empty),
        )
  ]

  can_go_on : CanRun m.lowered t m.memory
  can_go_on = record {
    ready = can.ready;
    low = omega (arith, r.marked.low_is);
    base = r.marked.base_same ∙ base;
  }

  -- they stay while the state is marked
  marked_here : ∥ AreMarksIn m.lowered.code.now m.lowered.parts t m.memory (reverse m.marks.items) ∥₁
      × (marks_over m t m.memory ≡ marks_over m m.trail m.memory)
  marked_here = kept t m.memory
      (marked_marks m.lowered.code.now m.lowered.parts is r.before t m.memory base can.ready.steady.constants r.marked)

  -- and after steps
  marked_after : (last : Trail) (new : Memory) → fixed_by last ≡ fixed_by t →
      Follows t last (view_in m.memory) (view_in new) → AreKept m.lowered.parts (view_in new) →
      ∥ AreMarksIn m.lowered.code.now m.lowered.parts last new (reverse m.marks.items) ∥₁
      × (marks_over m last new ≡ marks_over m m.trail m.memory)
  marked_after last new fixed follows constants = kept last new
      (noted_marks m.lowered.code.now m.lowered.parts is r.before t last m.memory new base
      can.ready.steady.constants r.marked fixed follows constants)

  -- and after going back
  marked_back : (last undone : Trail) (new : Memory) → fixed_by last ≡ fixed_by t →
      IsRestored m.lowered.code.now m.lowered.parts (view_in m.memory) (view_in new) →
      changes_in undone ≡ take mark.changes (changes_in last) → undone.low ≡ mark.depth → undone.base ≡ last.base →
      ∥ AreMarksIn m.lowered.code.now m.lowered.parts undone new (reverse m.marks.items) ∥₁
      × (marks_over m undone new ≡ marks_over m m.trail m.memory)
  marked_back last undone new fixed restored changes low base_same = kept undone new
      (undone_marks m.lowered.code.now m.lowered.parts is r.before t last undone m.memory new mark base
      can.ready.steady.constants r.marked r.of fixed restored changes low base_same)

-- the changes were forgotten only if nothing is marked
forgot : (c : After-make_mark-mark) → GoesOnWith c.args.self.now c.if-is_empty.trail
forgot c = elim c.if-is_empty.branch [
  | then-is_empty w ↦ rw w.trail-is (w.clear.ensures.base, inr (no_items c.args.self.now.marks.items (search rules)))
  | else-is_empty w ↦ rw w.trail-is (refl, inl refl)
]

first : (c : After-make_mark-mark) → IsReadied c.args.self.now c.make_mark-mark.new.trail c.make_mark-mark.result
first c =
    let made = c.make_mark-mark.ensures in
    record {
      before = c.if-is_empty.trail;
      goes = forgot c;
      marked = record {
        base_same = made.base;
        changes_same = made.changes;
        low_is = made.low;
        kept_is = made.kept;
        older = made.older;
      };
      of = record { place_is = made.place; depth_is = made.depth; count = made.count; rewinds = made.marked };
    }

second : (c : After-make_room) → IsReadied c.args.self.now c.make_room.new.self c.make_mark-mark.result
second c =
    let room = c.make_room.ensures in
    roomier c.args.self.now c.make_mark-mark.new.trail c.make_room.new.self c.make_mark-mark.result
    (first (goal.at.After-make_room c).After-make_mark-mark) room.base room.changes room.low

pub invariant_of-self : goal.invariant_of-self
invariant_of-self c =
    let law = c.law.ensures in
    let r = second (goal.at.invariant_of-self c).After-make_room in
    record {
      can = ∣ can_go_on c.args.self.now c.make_room.new.self c.make_mark-mark.result law.can law.program r ∣₁;
      marked = (marked_here c.args.self.now c.make_room.new.self c.make_mark-mark.result law.can law.program r).0;
    }

pub returns-in_err-make_room : goal.returns-in_err-make_room
returns-in_err-make_room c =
    let m = c.args.self.now in
    let law = c.law.ensures in
    let r = second (goal.at.returns-in_err-make_room c).After-make_room in
    record {
      rest = ap (λ marks. record (trailed_machine m) { marks = marks })
          (marked_here m c.make_room.new.self c.make_mark-mark.result law.can law.program r).1;
      fixed = refl;
      err = always_err c.from_residual.result _ refl;
      within = search rules;
      moves = λ none some. search rules;
      runs = λ none. search rules;
      steps = λ done given one going. search rules;
    }

-- the trail on which the steps are noted
abbrev readied : (c : After-make_steps) → Trail
readied c = c.if-not-has_room.trail

third : (c : After-make_steps) → IsReadied c.args.self.now (readied c) c.make_mark-mark.result
third c = elim c.if-not-has_room.branch [
  | then-not-has_room+in_ok-make_room w ↦
      let room = w.make_room.ensures in
      rw w.trail-is (
      roomier c.args.self.now c.make_mark-mark.new.trail w.make_room.new.self c.make_mark-mark.result
      (first (goal.at.After-make_steps c).After-make_mark-mark) room.base room.changes room.low)
  | else-not-has_room w ↦ rw w.trail-is (first (goal.at.After-make_steps c).After-make_mark-mark)
]

-- it has room for the changes of any statement
roomy : (c : After-make_steps) →
    c.program-program.result.now.parts.longest + 79 ≤ vec_capacity (readied c).entries - vec_len (readied c).entries
roomy c = elim c.if-not-has_room.branch [
  | then-not-has_room+in_ok-make_room w ↦
      rw w.trail-is (omega (arith, w.in_ok-make_room.ensures.room, w.saturating_add.ensures, c.longest-longest.ensures))
  | else-not-has_room w ↦ rw w.trail-is (search rules)
]

-- the marks stay after the steps
noted : (c : After-make_steps) →
    let m = c.args.self.now in
    let new = c.make_steps.new in
    ∥ AreMarksIn m.lowered.code.now m.lowered.parts new.notes new.memory (reverse m.marks.items) ∥₁
    × (marks_over m new.notes new.memory ≡ marks_over m m.trail m.memory)
noted c =
    let made = c.make_steps in
    marked_after c.args.self.now (readied c) c.make_mark-mark.result c.law.ensures.can c.law.ensures.program (third c)
    made.new.notes made.new.memory made.ensures.base_same made.ensures.follows
    (rw (sym c.program-program.ensures) made.ensures.steady.constants)

readied_base : (c : After-make_steps) → (readied c).base ≡ c.args.self.now.lowered.parts.layout.base
readied_base c =
    (can_go_on c.args.self.now (readied c) c.make_mark-mark.result c.law.ensures.can c.law.ensures.program (third c)).base

pub invariant_of-self-in-Ok-1 : goal.invariant_of-self-in-Ok-1
invariant_of-self-in-Ok-1 c =
    let at = (goal.at.invariant_of-self-in-Ok-1 c).After-make_steps in
    record {
      can = ∣ record {
        ready = rw (sym c.program-program.ensures) c.in-Ok.ensures.ready;
        low = c.make_steps.ensures.low_within;
        base = ap (λ f. f.base) c.make_steps.ensures.base_same ∙ readied_base at;
      } ∣₁;
      marked = (noted at).0;
    }

pub returns-in-Ok : goal.returns-in-Ok
returns-in-Ok c =
    let m = c.args.self.now in
    let new = c.make_steps.new in
    let input = input_of m.input.now in
    let at = (goal.at.returns-in-Ok c).After-make_steps in
    let program = c.program-program.result.now in
    record {
      rest = ap (λ marks. record (trailed_machine m) { state = state_in m.lowered input new.memory new.end; marks = marks })
          (noted at).1;
      fixed = refl;
      err = tt;
      within = c.in-Ok.ensures.within;
      moves = λ none some. rw (sym c.program-program.ensures) (
          c.in-Ok.ensures.moves none refl (roomy at) some input);
      runs = λ none. rw (sym c.program-program.ensures) (
          by_text c.new.result new.reader m.input.now (λ before after.
          RunsOn IsPlain (program_of program) (state_in program before m.memory m.end) c.in-Ok.made
          (state_in program after new.memory new.end)) c.new.ensures c.make_steps.ensures.held_same
          (c.in-Ok.ensures.runs none));
      steps = λ done given one going. rw (sym c.program-program.ensures) (
          by_text c.new.result new.reader m.input.now (λ before after. state_in program after new.memory new.end
          ≡ advance (program_of program) (state_in program before m.memory m.end) done)
          c.new.ensures c.make_steps.ensures.held_same
          (c.in-Ok.ensures.steps done given one going refl (roomy at)));
    }

-- the marked state was gone back to
restored : (c : After-back) →
    let m = c.args.self.now in
    IsRestored m.lowered.code.now m.lowered.parts (view_in m.memory) (view_in c.back.new.memory)
restored c =
    let m = c.args.self.now in
    let at = (goal.at.After-back c).After-make_steps in
    let r = third at in
    rw (sym c.program-program.ensures) (
    restored_by c.program-program.result.now.code.now c.program-program.result.now.parts (readied at)
    c.make_steps.new.notes (view_in m.memory) (view_in c.make_steps.new.memory)
    (view_in c.back.new.memory) c.make_mark-mark.result (rw c.program-program.ensures c.law.ensures.can.ready)
    r.marked.kept_is c.make_steps.ensures.follows r.of c.back.ensures.back)

-- and the marks stay
undone : (c : After-back) →
    let m = c.args.self.now in
    let new = c.back.new in
    ∥ AreMarksIn m.lowered.code.now m.lowered.parts new.trail new.memory (reverse m.marks.items) ∥₁
    × (marks_over m new.trail new.memory ≡ marks_over m m.trail m.memory)
undone c =
    let at = (goal.at.After-back c).After-make_steps in
    let back = c.back.ensures in
    marked_back c.args.self.now (readied at) c.make_mark-mark.result c.law.ensures.can c.law.ensures.program (third at)
    c.make_steps.new.notes c.back.new.trail c.back.new.memory c.make_steps.ensures.base_same (restored c)
    back.changes back.low back.base

pub invariant_of-self-2 : goal.invariant_of-self-2
invariant_of-self-2 c =
    let m = c.args.self.now in
    let at = (goal.at.invariant_of-self-2 c).After-back in
    let steps = (goal.at.invariant_of-self-2 c).After-make_steps in
    let back = restored at in
    let same =
    depth_restored m.lowered.code.now m.lowered.parts (view_in m.memory) (view_in c.back.new.memory)
    c.law.ensures.can.ready back in
    record {
      can = ∣ record {
        ready = back.ready;
        low = omega (arith, same, c.back.ensures.low, c.make_mark-mark.ensures.depth);
        base = c.back.ensures.base ∙ ap (λ f. f.base) c.make_steps.ensures.base_same ∙ readied_base steps;
      } ∣₁;
      marked = (undone at).0;
    }

pub returns : goal.returns
returns c =
    let m = c.args.self.now in
    let input = input_of m.input.now in
    let at = (goal.at.returns c).After-back in
    let s = state_in m.lowered input c.back.new.memory c.make_steps.new.end in
    record {
      rest = ap (λ marks. record (trailed_machine m) { state = s; marks = marks }) (undone at).1;
      fixed = refl;
      err = run_same m.lowered.code.now m.lowered.parts input (view_in c.back.new.memory) (view_in m.memory)
          c.make_steps.new.end ((restored at).states input)
          ∙ ap (state_in m.lowered input m.memory) c.in_default.ensures.end_same;
      within = tt;
      moves = λ none some. tt;
      runs = λ none. tt;
      steps = λ done given one going. tt;
    }
