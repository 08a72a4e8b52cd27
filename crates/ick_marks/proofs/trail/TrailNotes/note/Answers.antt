use Rattle.std.proofs.{lemmas.Grind.common_steps, Common.{ap, arith, false, refl, reverse, rules, ◌∙◌, ◌≡◌}}
use Rattle.ick_marks.proofs.{Changes.below_other, Changes.fixed_grown, Changes.grown, Changes.noted_alone, Names.alike_rewinds}
use Rattle.ick_marks.specs.TrailChanges.{changes_by}
use Rattle.ick_runtime.{specs.Undo.stands_apart, proofs.Undoing.restored_left}
use Rattle.ick_runtime.specs.declared.change.Entry.TheVariants.{Register, ScalarRestored, ScalarTaken}
use Rattle.ick_marks.proofs.trail.TrailNotes.note.Goals.{in-Register-2, in-ScalarRestored, in_default, in_default-via-in_default}
use Rattle.ick_marks.proofs.trail.TrailNotes.note.Goals.{in_default-via-in-ScalarRestored+else-slot-self}
use Rattle.ick_marks.proofs.trail.TrailNotes.note.Goals as goal

pub returns-clause-notes : goal.returns-clause-notes
returns-clause-notes c = λ k v m can h.
    let t = c.args.self.now in
    let pushed = c.match-entry.newest.1 in
    let grew = c.push_reserved.ensures.items in
    elim c.match-entry.branch [
      | in-Register-2 w ↦
          let now = w.in-Register in
          let is : pushed ≡ Register now.at now.field-1 = ap (λ p. p.1) w.newest-is ∙ now.is in
          noted_alone t _ _ _ k v m grew is refl w.if-at-self.false tt (rw now.is at h)
      | in-ScalarRestored w ↦
          let now = w.in-ScalarRestored in
          let is : pushed ≡ ScalarTaken now.slot now.number = ap (λ p. p.1) w.newest-is in
          let before = rw now.is at h in
          noted_alone t _ _ _ k v m grew is refl tt (rw now.is at can) (
            before.0,
            alike_rewinds (restored_left t.base t.low now.slot now.number now.field-2 v w.if-slot-self.true) before.1,
          )
      | in_default w ↦ elim w.in_default.branch [
        | in_default-via-in-ScalarRestored+else-slot-self w' ↦
            let now = w'.in-ScalarRestored in
            let is : pushed ≡ ScalarRestored now.slot now.number now.field-2 = ap (λ p. p.1) w.newest-is ∙ now.is in
            noted_alone t _ _ _ k v m grew is refl w'.if-slot-self.false (rw now.is at can) (rw now.is at h)
        | in_default-via-in_default w' ↦
            noted_alone t _ _ c.args.entry k v m grew (ap (λ p. p.1) w.newest-is) c.requires.alone
            (below_other t.base c.args.entry w'.in_default.not-Register (search rules)) can h
      ]
    ]

pub returns-clause-noted : goal.returns-clause-noted
returns-clause-noted c =
    let t = c.args.self.now in
    let all = c.push_reserved.new.self.items in
    let apart : stands_apart c.match-entry.newest.1 ≡ false = grind (arith, common_steps) in
    let more = grown t all t.entries.items c.match-entry.newest.1 apart c.push_reserved.ensures.items in
    record {
      room_left = omega (arith, c.requires.room, c.push_reserved.ensures.len, c.push_reserved.ensures.capacity);
      kept = record { low_same = refl; base_same = fixed_grown t (reverse (changes_by t (reverse all))) more; more = more };
    }
