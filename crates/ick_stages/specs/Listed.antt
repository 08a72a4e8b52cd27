-- The lines of a source by its statements, whether it is refused or not.
use Rattle.std.specs.Prelude.{ℕ, ◌≡◌, ◌+◌, ◌-◌, ◌≤◌, ◌||◌, Bool, true, false, if◌then◌else◌, List, [], ◌++◌, length}
use Rattle.std.specs.Prelude.{map}
use Rattle.std.specs.Prelude.{Option, Some, None, slice_get}
use Rattle.ick_inspect.specs.Positions.{texts_of}
use Rattle.ick_places.specs.declared.statement.Places.{Places}
use Rattle.ick_source.specs.Cut.{IsCut}
use Rattle.ick_source.specs.Seen.{SeesText}
use Rattle.ick_source.specs.declared.all_faults.FaultAt.{FaultAt}
use Rattle.ick_source.specs.declared.seen.Seen.{Seen}
use Rattle.ick_stages.specs.Faults.{fault_line, last_line}
use Rattle.ick_stages.specs.Parts.{parts_text_of}
use Rattle.ick_stages.specs.Placed.{ArePlaces, IsPlacedAt}
use Rattle.ick_stages.specs.Stages.{is_shown, tree_line}
use Rattle.ick_stages.specs.Starts.{Starts}
use Rattle.ick_stages.specs.Statements.{placed_line}
use Rattle.ick_stages.specs.Steps.{asked_text}
use Rattle.ick_stages.specs.declared.placed.Placed.{Placed}
use Rattle.ick_stages.specs.declared.stages.Asked.{Asked}
use Rattle.ick_syntax.specs.BodyTree.{BodyTree, body_tree_of}
use Rattle.ick_syntax.specs.StatementTree.{StatementTree, statement_tree_of}
use Rattle.ick_syntax.specs.declared.faults.Faults.{Faults}

abbrev pub texts_seen : List Seen → List (List ℕ)
texts_seen seen = map (λ x. x.statement.text.now) seen

-- the statements that are seen of a source have the texts of its cut, also if the source is refused
abbrev pub SeenTexts : Type 0
SeenTexts = (source : List ℕ) (seen : List Seen) → SeesText source seen →
    (trees : List StatementTree) × IsCut source trees × (texts_seen seen ≡ texts_of trees)

abbrev pub has_faults : Faults → Bool
has_faults faults = faults.mesh || faults.name || faults.label

-- the tree of a statement, unless a number in it is out of range
abbrev pub seen_tree : Seen → Option BodyTree
seen_tree x = if has_faults x.faults then None else body_tree_of x.statement.body

-- its line, its tree and the places of its parts
unfoldable pub seen_text : Asked → Seen → Placed → List ℕ
seen_text asked x placed =
    placed_line x.statement.number placed.position (statement_tree_of x.statement)
    ++ asked_text asked.tree (tree_line (seen_tree x)) ++ parts_text_of placed.parts asked.places

-- the lines of a statement that begins at a byte, if it is shown
pub data HasSeen (source : List ℕ) (start : ℕ) (asked : Asked) (x : Seen) : List ℕ → Type 0 where
  hidden : is_shown asked.only x.statement.number ≡ false → HasSeen source start asked x []
  shown : (placed : Placed) → is_shown asked.only x.statement.number ≡ true →
      IsPlacedAt source start asked.parts (statement_tree_of x.statement) placed →
      HasSeen source start asked x (seen_text asked x placed)

-- the lines of the first statements
pub data AreSeen (source : List ℕ) (asked : Asked) (seen : List Seen) : ℕ → List ℕ → Type 0 where
  no_seen : AreSeen source asked seen 0 []
  seen_more : {n start : ℕ} {x : Seen} {lines piece : List ℕ} →
      AreSeen source asked seen n lines →
      slice_get seen n ≡ Some x →
      Starts source (texts_seen seen) n start →
      HasSeen source start asked x piece →
      AreSeen source asked seen (n + 1) (lines ++ piece)

-- some of them, from the first one on
abbrev pub AreSomeSeen : (source : List ℕ) → Asked → List Seen → List ℕ → Type 0
AreSomeSeen source asked seen lines = (n : ℕ) × AreSeen source asked seen n lines

-- the statements begin at these bytes of the source
pub record AllStart (source : List ℕ) (seen : List Seen) (starts : List ℕ) : Type 0 where
  pub count : length starts ≡ length seen
  pub within : (n start : ℕ) → slice_get starts n ≡ Some start → start ≤ length source
  pub each : (n start : ℕ) → slice_get starts n ≡ Some start → Starts source (texts_seen seen) n start

-- the line of a fault, with the places of its statement
pub data HasFault (source : List ℕ) (seen : List Seen) (fault : FaultAt) : List ℕ → Type 0 where
  nowhere : slice_get seen (fault.number - 1) ≡ None → HasFault source seen fault []
  there : {start : ℕ} {x : Seen} (places : Places) →
      slice_get seen (fault.number - 1) ≡ Some x →
      Starts source (texts_seen seen) (fault.number - 1) start →
      ArePlaces source start (statement_tree_of x.statement) places →
      HasFault source seen fault (fault_line source fault places)

-- the lines of the first faults
pub data AreFaults (source : List ℕ) (seen : List Seen) (faults : List FaultAt) : ℕ → List ℕ → Type 0 where
  no_fault : AreFaults source seen faults 0 []
  fault_more : {n : ℕ} {fault : FaultAt} {lines piece : List ℕ} →
      AreFaults source seen faults n lines →
      slice_get faults n ≡ Some fault →
      HasFault source seen fault piece →
      AreFaults source seen faults (n + 1) (lines ++ piece)

-- some of them, from the first one on
abbrev pub AreSomeFaults : (source : List ℕ) → List Seen → List FaultAt → List ℕ → Type 0
AreSomeFaults source seen faults lines = (n : ℕ) × AreFaults source seen faults n lines

-- the lines of all faults, if they are asked for
abbrev pub AreAllFaults : (source : List ℕ) → List Seen → List FaultAt → (asked : Bool) → List ℕ → Type 0
AreAllFaults source seen faults true lines = AreFaults source seen faults (length faults) lines
AreAllFaults source seen faults false lines = lines ≡ []

-- the lines of all faults, if they are asked for, and the last line
pub record IsEnd (source : List ℕ) (seen : List Seen) (faults : List FaultAt) (asked : Bool) (text : List ℕ)
    : Type 0 where
  pub lines : List ℕ
  pub are : AreAllFaults source seen faults asked lines
  pub text_is : text ≡ lines ++ last_line faults

-- whole lines of them, from the first one on
pub data AreSomeEnd (source : List ℕ) (seen : List Seen) (faults : List FaultAt) (asked : Bool) : List ℕ → Type 0 where
  some_faults : (n : ℕ) (lines : List ℕ) → AreFaults source seen faults n lines →
      AreSomeEnd source seen faults asked lines
  whole_faults : (lines : List ℕ) → AreAllFaults source seen faults asked lines →
      AreSomeEnd source seen faults asked lines
  whole_end : (text : List ℕ) → IsEnd source seen faults asked text → AreSomeEnd source seen faults asked text

-- the lines of all statements, and the end
pub record HasListed (source : List ℕ) (seen : List Seen) (faults : List FaultAt) (asked : Asked)
    (text : List ℕ) : Type 0 where
  pub lines : List ℕ
  pub are : AreSeen source asked seen (length seen) lines
  pub end : List ℕ
  pub ends : IsEnd source seen faults asked.places end
  pub text_is : text ≡ lines ++ end

-- whole statements of these lines, and whole lines of the end, from the first one on
pub data AreSome (source : List ℕ) (seen : List Seen) (faults : List FaultAt) (asked : Asked) :
    List ℕ → Type 0 where
  some_seen : (n : ℕ) (lines : List ℕ) → AreSeen source asked seen n lines → AreSome source seen faults asked lines
  some_end : (lines end : List ℕ) → AreSeen source asked seen (length seen) lines →
      AreSomeEnd source seen faults asked.places end → AreSome source seen faults asked (lines ++ end)
