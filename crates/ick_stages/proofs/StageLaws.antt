-- The lines of one more statement.
use Rattle.std.proofs.Common.{◌≡◌, ◌∙◌, ℕ, Bool, List, length, ap, refl}
use Rattle.std.specs.Prelude.{◌&&◌, Option}
use Rattle.ick_code.specs.Compiled.{code_ops, code_program, code_slots}
use Rattle.ick_inspect.proofs.AddLaws.{same, then}
use Rattle.ick_inspect.specs.Text.{Adds}
use Rattle.ick_inspect.specs.declared.text.Text.{Text}
use Rattle.ick_instructions.specs.declared.instruction.Instruction.{Instruction}
use Rattle.ick_instructions.specs.declared.layout.Layout.{Layout}
use Rattle.ick_instructions.specs.declared.lowered.Lowered.{Lowered}
use Rattle.ick_lowering.specs.declared.draft.StatementDraft.{StatementDraft}
use Rattle.ick_stages.specs.Left.{Sorts, kept_of, sorted_first}
use Rattle.ick_stages.specs.Stages.{AddsStage, bottom_text, is_shown, sorts_by, stage_text, top_text}
use Rattle.ick_stages.specs.Steps.{HasSteps, Made, asked_text}
use Rattle.ick_stages.specs.Traces.{traces_text}
use Rattle.ick_stages.specs.declared.placed.Placed.{Placed}
use Rattle.ick_stages.specs.declared.stages.Asked.{Asked}
use Rattle.ick_syntax.specs.StatementTree.{StatementTree}
use Rattle.ick_traces.specs.declared.traces.Candidate.{Candidate}

pub stage_of : (lowered : Lowered) (traces : Option Candidate) (layout : Layout) (asked : Asked) (n : ℕ) (t : StatementTree) (placed : Placed)
    (old new : StatementDraft) (made : Made) (sorts : Sorts) {shown lines trace : Bool}
    {kept : List Instruction} {a b c d e : Text} →
    shown ≡ is_shown asked.only n →
    Adds a b (asked_text shown (top_text lowered.code.now asked n t placed)) →
    lines ≡ shown && asked.rules →
    HasSteps (code_program lowered.code.now) (code_slots lowered.code.now) layout lines
    (code_ops lowered.code.now n) old new b c made →
    kept ≡ kept_of lowered.parts n →
    sorts ≡ sorted_first new.instructions.items made.first kept (length new.instructions.items) →
    Adds c d (asked_text shown (bottom_text lowered layout asked n new made sorts)) →
    trace ≡ shown && asked.traces →
    Adds d e (asked_text trace (traces_text lowered traces n)) →
    AddsStage lowered traces layout asked n t placed old new a e
stage_of lowered traces layout asked n t placed old new made sorts {shown} {lines} {trace} {kept} shows top both has keeps sorted
    bottom traced last =
    let own = sorts_by lowered n new made in
    let sorts_are : sorts ≡ own =
    sorted ∙ ap (λ k. sorted_first new.instructions.items made.first k (length new.instructions.items)) keeps in
    let first = same (ap (λ b. asked_text b (top_text lowered.code.now asked n t placed)) shows) top in
    let second = same (ap (λ b. asked_text b has.lines) (both ∙ ap (λ b. b && asked.rules) shows)) has.added in
    let third = same (ap (λ b. asked_text b (bottom_text lowered layout asked n new made sorts)) shows
    ∙ ap (λ s. asked_text (is_shown asked.only n) (bottom_text lowered layout asked n new made s)) sorts_are) bottom in
    let fourth = same (ap (λ b. asked_text b (traces_text lowered traces n)) (traced ∙ ap (λ b. b && asked.traces) shows))
    last in
    record {
      piece = stage_text lowered traces layout asked n t placed has.lines made new;
      has = record {
        first = has.first;
        cleared = has.cleared;
        lines = has.lines;
        made = made;
        steps = has.steps;
        text_is = refl;
      };
      added = then (then (then first second) third) fourth;
    }
