-- The lines of a statement, as they are written.
use Rattle.std.specs.Prelude.{ℕ, ◌&&◌, List}
use Rattle.ick_lowering.specs.declared.draft.StatementDraft.{StatementDraft}
use Rattle.ick_stages.specs.Placed.{IsPlacedAt}
use Rattle.ick_stages.specs.Stages.{HasStage, is_shown}
use Rattle.ick_stages.specs.declared.placed.Placed.{Placed}
use Rattle.ick_stages.specs.declared.stages.Asked.{Asked}
use Rattle.ick_stages.specs.declared.writing.Ready.{Ready}
use Rattle.ick_syntax.specs.StatementTree.{StatementTree}

-- the lines of a statement that begins at a byte
pub record HasPiece (ready : Ready) (source : List ℕ) (asked : Asked) (n start : ℕ) (t : StatementTree)
    (old new : StatementDraft) (piece : List ℕ) : Type 0 where
  pub placed : Placed
  pub is : IsPlacedAt source start (is_shown asked.only n && asked.parts) t placed
  pub has : HasStage ready.lowered ready.traces ready.layout asked n t placed old new piece
