-- The lines of the stages of a program, statement by statement.
use Rattle.std.specs.Prelude.{ℕ, ◌≡◌, ◌+◌, ◌==◌, ◌&&◌, ◌||◌, Bool, true, false, List, [], ◌++◌, codes, length}
use Rattle.std.specs.Prelude.{Option, None, Result, Some, slice_get}
use Rattle.ick_code.specs.Compiled.{code_ops, code_program, code_slots}
use Rattle.ick_code.specs.declared.code.Code.{Code}
use Rattle.ick_explorer.specs.declared.errors.RunsError.{RunsError}
use Rattle.ick_inspect.specs.Positions.{texts_of}
use Rattle.ick_inspect.specs.Text.{Adds}
use Rattle.ick_inspect.specs.declared.text.Text.{Text}
use Rattle.ick_instructions.specs.declared.layout.Layout.{Layout}
use Rattle.ick_instructions.specs.declared.lowered.Lowered.{Lowered}
use Rattle.ick_lowering.specs.Programs.{HasRoom}
use Rattle.ick_lowering.specs.declared.draft.StatementDraft.{StatementDraft}
use Rattle.ick_stages.specs.Bodies.{body_text}
use Rattle.ick_stages.specs.Left.{Sorts, dropped_text, instructions_text, kept_of, sorted_first}
use Rattle.ick_stages.specs.Operations.{operations_text}
use Rattle.ick_stages.specs.Lines.{WritesLines}
use Rattle.ick_stages.specs.Parts.{parts_text_of}
use Rattle.ick_stages.specs.Placed.{IsPlacedAt}
use Rattle.ick_stages.specs.Registers.{drafted, lowered_names}
use Rattle.ick_stages.specs.Starts.{Starts}
use Rattle.ick_stages.specs.Statements.{placed_line}
use Rattle.ick_stages.specs.Steps.{AreSteps, IsCleared, Made, asked_text}
use Rattle.ick_stages.specs.Traces.{AreOfProgram, traces_text}
use Rattle.ick_stages.specs.declared.placed.Placed.{Placed}
use Rattle.ick_stages.specs.declared.stages.Asked.{Asked}
use Rattle.ick_stages.specs.declared.writing.Ready.{Ready}
use Rattle.ick_traces.specs.declared.traces.Candidate.{Candidate}
use Rattle.ick_syntax.specs.BodyTree.{BodyTree}
use Rattle.ick_syntax.specs.StatementTree.{StatementTree}

-- any lines are asked for that a program's code gives
abbrev pub needs_code : Asked → Bool
needs_code asked = asked.operations || asked.rules || asked.instructions || asked.traces

-- a statement is shown: each one, or the only one that is asked for
abbrev pub is_shown : Option ℕ → ℕ → Bool
is_shown None n = true
is_shown (Some only) n = only == n

abbrev pub tree_line : Option BodyTree → List ℕ
tree_line body = codes "  tree " ++ body_text body ++ codes "\n"

-- what the text of a statement gives: its line, its tree, its operations and the places of its parts
unfoldable pub top_text : Code → Asked → (n : ℕ) → StatementTree → Placed → List ℕ
top_text code asked n t placed =
    placed_line n placed.position t ++ asked_text asked.tree (tree_line t.body)
    ++ asked_text asked.operations (operations_text (code_slots code) (code_ops code n))
    ++ parts_text_of placed.parts asked.places

-- what its draft and its instructions give: the instructions that are dropped, and those that are left
abbrev pub bottom_text : Lowered → Layout → Asked → (n : ℕ) → StatementDraft → Made → Sorts → List ℕ
bottom_text lowered layout asked n draft made sorts =
    asked_text asked.rules (dropped_text (drafted lowered.code.now layout draft) draft.instructions.items made.first
    sorts.dropped)
    ++ asked_text asked.instructions (instructions_text (lowered_names lowered) made sorts.left
    (kept_of lowered.parts n))

abbrev pub sorts_by : Lowered → (n : ℕ) → StatementDraft → Made → Sorts
sorts_by lowered n draft made =
    sorted_first draft.instructions.items made.first (kept_of lowered.parts n) (length draft.instructions.items)

-- all lines of a statement that are asked for, by the lines of its steps
abbrev pub stage_text : Lowered → Option Candidate → Layout → Asked → (n : ℕ) → StatementTree → Placed →
    (lines : List ℕ) → Made → StatementDraft → List ℕ
stage_text lowered traces layout asked n t placed lines made draft =
    let shown = is_shown asked.only n in
    asked_text shown (top_text lowered.code.now asked n t placed) ++ asked_text (shown && asked.rules) lines
    ++ asked_text shown (bottom_text lowered layout asked n draft made (sorts_by lowered n draft made))
    ++ asked_text (shown && asked.traces) (traces_text lowered traces n)

-- the lines of a statement that was lowered again, from a draft to a draft
pub record HasStage (lowered : Lowered) (traces : Option Candidate) (layout : Layout) (asked : Asked) (n : ℕ)
    (t : StatementTree) (placed : Placed) (old new : StatementDraft) (piece : List ℕ) : Type 0 where
  pub first : StatementDraft
  pub cleared : IsCleared old first
  pub lines : List ℕ
  pub made : Made
  pub steps : AreSteps (code_program lowered.code.now) (code_slots lowered.code.now) layout
      (code_ops lowered.code.now n) first new lines made
  pub text_is : piece ≡ stage_text lowered traces layout asked n t placed lines made new

pub record AddsStage (lowered : Lowered) (traces : Option Candidate) (layout : Layout) (asked : Asked) (n : ℕ)
    (t : StatementTree) (placed : Placed) (old new : StatementDraft) (before after : Text) : Type 0 where
  pub piece : List ℕ
  pub has : HasStage lowered traces layout asked n t placed old new piece
  pub added : Adds before after piece

-- the lines of the first statements, and the draft that they left
pub data AreStages (lowered : Lowered) (traces : Option Candidate) (layout : Layout) (source : List ℕ) (asked : Asked)
    (trees : List StatementTree) : ℕ → StatementDraft → List ℕ → Type 0 where
  no_stage : {d : StatementDraft} → d.subscripts.items ≡ [] → d.constants.list.items ≡ [] →
      AreStages lowered traces layout source asked trees 0 d []
  stage_more : {n start : ℕ} {t : StatementTree} {placed : Placed} {old new : StatementDraft} {lines piece : List ℕ} →
      AreStages lowered traces layout source asked trees n old lines →
      slice_get trees n ≡ Some t → Starts source (texts_of trees) n start →
      IsPlacedAt source start (is_shown asked.only (n + 1) && asked.parts) t placed →
      HasStage lowered traces layout asked (n + 1) t placed old new piece →
      AreStages lowered traces layout source asked trees (n + 1) new (lines ++ piece)

-- what the lines of a code are made from
pub record IsReady (code : Code) (asked : Asked) (ready : Ready) : Type 0 where
  pub code_is : ready.lowered.code.now ≡ code
  pub room : HasRoom code ready.layout
  pub traces : AreOfProgram ready.lowered ready.traces
  pub unasked : asked.traces ≡ false → ready.traces ≡ None

-- the lines of the first statements of a code
pub record HasFirst (code : Code) (source : List ℕ) (asked : Asked) (n : ℕ) (lines : List ℕ) : Type 0 where
  pub ready : Ready
  pub is : IsReady code asked ready
  pub last : StatementDraft
  pub stages : AreStages ready.lowered ready.traces ready.layout source asked (code_program code) n last lines

-- the lines of all statements of a code, and `DONE`
pub record HasStages (code : Code) (source : List ℕ) (asked : Asked) (text : List ℕ) : Type 0 where
  pub lines : List ℕ
  pub all : HasFirst code source asked (length (code_program code)) lines
  pub text_is : text ≡ lines ++ codes "DONE\n"

-- whole statements of these lines, from the first one on: none, some, or all lines
pub data AreWhole (code : Code) (source : List ℕ) (asked : Asked) : List ℕ → Type 0 where
  no_line : AreWhole code source asked []
  some_lines : (n : ℕ) (lines : List ℕ) → HasFirst code source asked n lines → AreWhole code source asked lines
  all_lines : (text : List ℕ) → HasStages code source asked text → AreWhole code source asked text

-- the lines of a code that was compiled from a source
abbrev pub Writes : {T : Type 0} → Code → (source : List ℕ) → Asked → (before after : List ℕ) → Result T RunsError →
    Type 0
Writes code source asked before after result =
    WritesLines (HasStages code source asked) (AreWhole code source asked) before after result
