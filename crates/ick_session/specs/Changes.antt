-- What a step has changed, as a text.
use Rattle.std.specs.Prelude.{ℕ, ◌-◌, ◌==◌, ◌&&◌, nat_lt, Bool, not, List, [], ◌∷◌}
use Rattle.std.specs.Prelude.{◌++◌, length, take}
use Rattle.std.specs.Prelude.{bytes_eq, drop, codes, decimal, Option, Some, None, if◌then◌else◌}
use Rattle.std.specs.Bool.{beq}
use Rattle.std.specs.List.{flat_map, range_with_len}
use Rattle.ick_bits.specs.Quoted.{quoted}
use Rattle.ick_syntax.specs.StatementTree.{StatementTree}
use Rattle.ick_syntax.specs.declared.tree.Name.{Name}
use Rattle.ick_code.specs.declared.code.Code.{Code}
use Rattle.ick_code.specs.declared.op.Op.{Op}
use Rattle.ick_code.specs.Compiled.{code_program, code_slots}
use Rattle.ick_backtrack.specs.Machine.{Program}
use Rattle.ick_code.specs.Effects.{Slots}
use Rattle.ick_code.specs.Names.{is_among}
use Rattle.ick_code.specs.meaning.Move.{advance, is_done}
use Rattle.ick_code.specs.meaning.State.{State, statement_at}
use Rattle.ick_inspect.specs.Names.{variable_text}
use Rattle.ick_inspect.specs.Summary.{stack_text}
use Rattle.ick_inspect.specs.Text.{numbers_text}
use Rattle.ick_session.specs.Targets.{ops_at, targets_of}

-- what a state has at a name; of stashed values the number
pub record Had : Type 0 where
  pub number : ℕ
  pub ignored : Bool
  pub numbers : ℕ
  pub arrays : ℕ
  pub dimensions : List ℕ
  pub elements : List ℕ

abbrev pub had_at : State → Name → Had
had_at s name = record {
  number = s.scalars name;
  ignored = s.ignored name;
  numbers = length (s.stashed_scalars name);
  arrays = length (s.stashed_arrays name);
  dimensions = (s.arrays name).dimensions;
  elements = (s.arrays name).elements;
}

-- whether it is the same
abbrev pub alike : Had → Had → Bool
alike a b =
    a.number == b.number && beq a.ignored b.ignored && a.numbers == b.numbers && a.arrays == b.arrays
    && bytes_eq a.dimensions b.dimensions && bytes_eq a.elements b.elements

-- bytes in quotes behind a word, unless there are none
abbrev pub bytes_text : List ℕ → List ℕ → List ℕ
bytes_text word [] = []
bytes_text word (b ∷ bytes) = word ++ quoted (b ∷ bytes) ++ codes "\n"

-- what was read
abbrev pub read_text : State → State → List ℕ
read_text s t = bytes_text (codes "  reads ") (take (length s.input - length t.input) s.input)

-- what was printed behind so many bytes
abbrev pub printed_text : ℕ → State → List ℕ
printed_text n t = bytes_text (codes "  prints ") (drop n t.output)

-- the line of a name that has changed
abbrev pub name_line : State → State → Name → List ℕ
name_line s t name =
    if alike (had_at s name) (had_at t name) then [] else codes "  " ++ variable_text t name ++ codes "\n"

-- a line for each statement that the second state abstains from and the first doesn't
abbrev pub newly_line : List ℕ → State → State → ℕ → List ℕ
newly_line word s t n =
    if t.abstained n && not (s.abstained n) then word ++ decimal n ++ codes "\n" else []

abbrev pub newly_text : List ℕ → State → State → ℕ → List ℕ
newly_text word s t count = flat_map (newly_line word s t) (range_with_len 1 count)

-- a line for each statement that only one of two states abstains from
abbrev pub abstained_text : ℕ → (before after : State) → List ℕ
abstained_text count s t =
    newly_text (codes "  abstains from ") s t count ++ newly_text (codes "  reinstates ") t s count

-- a line for each name that the operations of a statement have changed, in their order
abbrev pub names_text : Slots → List Op → (before after : State) → List ℕ
names_text slots ops s t = flat_map (name_line s t) (targets_of slots ops)

-- the piece of a name, if there is one that isn't among others
abbrev pub piece_unless : (Name → List ℕ) → List Name → Option Name → List ℕ
piece_unless f names None = []
piece_unless f names (Some name) = if is_among name names then [] else f name

-- so many of the return addresses behind a word, the newest first
abbrev pub newest_line : List ℕ → List ℕ → ℕ → List ℕ
newest_line word addresses count = word ++ numbers_text (codes " ") (take count addresses) ++ codes "\n"

-- the return addresses that were pushed, or those that were removed, the newest first
abbrev pub moved_line : (before after : List ℕ) → List ℕ
moved_line before after =
    if nat_lt (length before) (length after)
    then newest_line (codes "  pushes") after (length after - length before)
    else newest_line (codes "  removes") before (length before - length after)

-- what happened to the return addresses, and those that there are then, if they have changed
abbrev pub returned_text : State → State → List ℕ
returned_text s t =
    if bytes_eq s.returns t.returns then [] else moved_line s.returns t.returns ++ codes "  " ++ stack_text t

-- what a step at a statement has changed: what it read, the names, the statements that are abstained from or no longer,
-- the return addresses that it pushed or removed and those that there are then, and what it printed
abbrev pub changes_text : Code → (statement : ℕ) → (before after : State) → List ℕ
changes_text code n s t =
    read_text s t ++ names_text (code_slots code) (ops_at code n) s t
    ++ abstained_text (length (code_program code)) s t ++ returned_text s t ++ printed_text (length s.output) t

-- that a statement is passed over: it is abstained from, or its chance is 0, or a choice wouldn't do it
abbrev pub passed_line : Bool → List ℕ
passed_line done = if done then [] else codes "  passed over\n"

abbrev pub passed_text : Option StatementTree → State → (chosen : Bool) → List ℕ
passed_text None s chosen = []
passed_text (Some statement) s chosen = passed_line (is_done statement (s.abstained s.place) chosen)

-- the lines of a step by code that does what the program does: that its statement is passed over, and what has changed
abbrev pub step_text : Program → Code → State → (chosen : Bool) → List ℕ
step_text p code s chosen =
    passed_text (statement_at p s.place) s chosen ++ changes_text code s.place s (advance p s chosen)

-- which statement changed a name, if one did
abbrev pub change_text : Bool → (statement : ℕ) → List ℕ
change_text changed n = if changed then codes ", changed by statement " ++ decimal n else []
