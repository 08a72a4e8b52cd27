-- What lines leave in a writer.
use Rattle.std.specs.Prelude.{ℕ, ◌≡◌, ◌++◌, Bool, false, List, Result, Ok, Err, take}
use Rattle.ick_explorer.specs.declared.errors.RunsError.{RunsError}
use Rattle.ick_explorer.specs.declared.errors.RunsError.TheVariants.{NoMemory, NoSuchRun, WorkFull, Failed, BadCursor}
use Rattle.ick_explorer.specs.declared.errors.RunsError.TheVariants.{Read, Write}

-- All lines are written. If memory runs out, whole statements of them are, and if a write fails, a prefix of such
-- lines.
abbrev pub WritesLines : {T : Type 0} → (All Whole : List ℕ → Type 0) → (before after : List ℕ) → Result T RunsError →
    Type 0
WritesLines All Whole before after (Ok _) = (text : List ℕ) × All text × (after ≡ before ++ text)
WritesLines All Whole before after (Err NoMemory) = (lines : List ℕ) × Whole lines × (after ≡ before ++ lines)
WritesLines All Whole before after (Err Write) =
    (lines : List ℕ) × Whole lines × (k : ℕ) × (after ≡ before ++ take k lines)
WritesLines All Whole before after (Err NoSuchRun) = ⊥
WritesLines All Whole before after (Err WorkFull) = ⊥
WritesLines All Whole before after (Err Failed) = ⊥
WritesLines All Whole before after (Err BadCursor) = ⊥
WritesLines All Whole before after (Err Read) = ⊥

-- lines that are written at once: all of them, or nothing, or a prefix
abbrev pub WritesPiece : {T : Type 0} → (Is : List ℕ → Type 0) → (before after : List ℕ) → Result T RunsError → Type 0
WritesPiece Is before after (Ok _) = (piece : List ℕ) × Is piece × (after ≡ before ++ piece)
WritesPiece Is before after (Err NoMemory) = after ≡ before
WritesPiece Is before after (Err Write) = (piece : List ℕ) × Is piece × (k : ℕ) × (after ≡ before ++ take k piece)
WritesPiece Is before after (Err NoSuchRun) = ⊥
WritesPiece Is before after (Err WorkFull) = ⊥
WritesPiece Is before after (Err Failed) = ⊥
WritesPiece Is before after (Err BadCursor) = ⊥
WritesPiece Is before after (Err Read) = ⊥

-- all of a text is written; or nothing, if memory was refused for it; or a prefix, if a write failed
abbrev pub WritesText : {T : Type 0} → (refused : Bool) → (text before after : List ℕ) → Result T RunsError → Type 0
WritesText refused text before after (Ok _) = (refused ≡ false) × (after ≡ before ++ text)
WritesText refused text before after (Err NoMemory) = after ≡ before
WritesText refused text before after (Err Write) = (refused ≡ false) × (k : ℕ) × (after ≡ before ++ take k text)
WritesText refused text before after (Err NoSuchRun) = ⊥
WritesText refused text before after (Err WorkFull) = ⊥
WritesText refused text before after (Err Failed) = ⊥
WritesText refused text before after (Err BadCursor) = ⊥
WritesText refused text before after (Err Read) = ⊥
