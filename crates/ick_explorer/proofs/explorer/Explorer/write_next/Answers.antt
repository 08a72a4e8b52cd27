use Rattle.std.proofs.Common.{rules, ap, ◌∙◌}
use Rattle.ick_explorer.specs.Lines.{line_of}
use Rattle.ick_explorer.specs.Explorers.{explored}
use Rattle.ick_backtrack.specs.Asked.{finish_of}
use Rattle.ick_code.specs.meaning.State.{State}
use Rattle.ick_explorer.specs.Standing.{Stands}
use Rattle.ick_explorer.specs.WritingSteps.{IsWithin}
use Rattle.ick_explorer.proofs.KeptLaws.{on_ok}
use Rattle.ick_explorer.proofs.WritingLaws.{HasLine, writes_none, found_line, writes_one, writes_part, told_part}
use Rattle.ick_explorer.proofs.WritingLaws.{move_refused}
use Rattle.ick_explorer.proofs.explorer.Explorer.write_next.Given.{Over}
use Rattle.ick_explorer.proofs.explorer.Explorer.write_next.Goals as goal
use Rattle.ick_explorer.proofs.explorer.Explorer.write_next.Goals.{After-as_slice}

pub returns-then-not-more-clause-next : goal.returns-then-not-more-clause-next
returns-then-not-more-clause-next g c =
    λ s xs h k. writes_none _ s xs (explored c.args.self.now) _ (c.more.ensures.last s h (search rules)) k

-- the line is that of the run that was found
line : (g : Over) (c : After-as_slice g) (s : State) → Stands s (explored c.args.self.now) →
    HasLine s (explored c.args.self.now) (explored c.advance.new.self) c.advance.new.self.path.choices
    c.in-Ok-Some.field-0-0 (finish_of c.end_here-end.result) c.as_slice.result.now
line g c s h =
    let e = c.in-Ok-Some.ensures in
    found_line _ _ s _ _ _ _ _ _ _ c.in-Ok-Some.field-0-is e.over e.some c.end_here-end.ensures h e.program e.limit
    e.room
    (c.as_slice.ensures
    ∙ (on_ok c.build-built.result c.is_err.result c.is_err.ensures.value c.if-is_err.false c.build-built.ensures.line
    ∙ ap (line_of c.advance.new.self.path.choices (finish_of c.end_here-end.result)) c.output.ensures))

pub returns-in-Ok-clause-next : goal.returns-in-Ok-clause-next
returns-in-Ok-clause-next g c = λ s xs h k.
    let built = line g (goal.at.returns-in-Ok-clause-next g c).After-as_slice s h in
    rw c.build-built.ensures.same (writes_one _ s xs _ _ _ _ _ _ _ _ built k c.in-Ok.ensures.all)

pub returns-in-Err-write_whole-clause-next : goal.returns-in-Err-write_whole-clause-next
returns-in-Err-write_whole-clause-next g c = λ s xs h k.
    let built = line g (goal.at.returns-in-Err-write_whole-clause-next g c).After-as_slice s h in
    let part = told_part _ _ _ c.as_slice.result.now c.write_whole.ensures.beginning in (
      part.0,
      rw c.build-built.ensures.same (writes_part _ s xs _ _ _ _ _ _ _ _ built k part.0 part.1),
    )

pub returns-in-Err-clause-moves : goal.returns-in-Err-clause-moves
returns-in-Err-clause-moves g c =
    let h = c.in-Err.ensures in
    move_refused (explored c.args.self.now) (explored c.advance.new.self) c.in-Err.refused
    c.requires.sound h.failed.0 (λ x. (h.work_full.0 x).1) h.no_memory h.errors

pub returns-in-Ok-clause-moves : goal.returns-in-Ok-clause-moves
returns-in-Ok-clause-moves g c =
    let within : IsWithin (explored c.args.self.now) (explored c.advance.new.self) = record {
      sound = c.in-Ok-Some.ensures.sound;
      limit = c.in-Ok-Some.ensures.limit;
      work = c.in-Ok-Some.ensures.within;
    } in
    rw c.build-built.ensures.same within
