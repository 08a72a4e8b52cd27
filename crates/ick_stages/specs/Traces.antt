-- The traces that begin with a statement: a line for each instruction, and one for each statement that needs none.
use Rattle.std.specs.Prelude.{ℕ, zero, suc, ◌+◌, ◌-◌, ◌==◌, Bool, true, false, List, [], ◌∷◌, ◌++◌, codes, decimal}
use Rattle.std.specs.Prelude.{drop, if◌then◌else◌, Option, Some, None, slice_get}
use Rattle.std.specs.List.{flat_map, range_with_len}
use Rattle.ick_instructions.specs.declared.instruction.{Instruction.Instruction, Operation.Operation}
use Rattle.ick_instructions.specs.declared.instruction.Operation.TheVariants as op
use Rattle.ick_instructions.specs.declared.lowered.Lowered.{Lowered}
use Rattle.ick_instructions.specs.declared.lowered.LoweredParts.{LoweredParts}
use Rattle.ick_traces.specs.Spot.{Spot, behind, spot}
use Rattle.ick_traces.specs.Traces.{IsAccepted, own_of, spot_of, way}
use Rattle.ick_traces.specs.declared.fixed.Fixed.{Fixed}
use Rattle.ick_traces.specs.declared.traces.Candidate.{Candidate}
use Rattle.ick_traces.specs.declared.traces.Origin.{Origin}
use Rattle.ick_stages.specs.Instructions.{instruction_text}
use Rattle.ick_stages.specs.Registers.{RegisterNames, lowered_names}
use Rattle.ick_stages.specs.declared.trace.Place.{Place}

-- where a run is along a trace
abbrev pub spot_in : Place → Spot
spot_in place = spot place.here place.steps place.pending.items

-- a statement that is passed over whenever it is met
abbrev pub is_marked : Option Bool → Bool
is_marked None = false
is_marked (Some mark) = mark

abbrev pub passes : Fixed → ℕ → Bool
passes fixed n = is_marked (slice_get fixed.passed.items n)

-- the first instruction of a statement
abbrev pub found_at : LoweredParts → Option ℕ → Option Instruction
found_at parts None = None
found_at parts (Some start) = slice_get parts.instructions.items start

abbrev pub first_of : LoweredParts → ℕ → Option Instruction
first_of parts n = found_at parts (slice_get parts.starts.items n)

-- a number that is there, or 0
abbrev pub found_number : Option ℕ → ℕ
found_number None = 0
found_number (Some n) = n

-- the number in the register of a constant
abbrev pub number_in : LoweredParts → (register : ℕ) → ℕ
number_in parts r = found_number (slice_get parts.constants.items (r - parts.layout.first))

-- where a run goes from a statement for which a trace needs no instruction, by the statement's own one
abbrev pub over_by : LoweredParts → Spot → Instruction → Operation → Spot
over_by parts p i op.Call = spot i.number (p.steps + 1) ((p.here + 1) ∷ p.pending)
over_by parts p i op.Forget = spot (p.here + 1) (p.steps + 1) (drop (number_in parts i.left) p.pending)
over_by parts p i op.Resume =
    spot (found_number (slice_get p.pending (number_in parts i.left - 1))) (p.steps + 1)
    (drop (number_in parts i.left) p.pending)
over_by parts p i other = behind p

abbrev pub over_found : LoweredParts → Spot → Option Instruction → Spot
over_found parts p None = spot p.here (p.steps + 1) p.pending
over_found parts p (Some i) = over_by parts p i i.operation

abbrev pub over : LoweredParts → Fixed → Spot → Spot
over parts fixed p = if passes fixed p.here then behind p else over_found parts p (first_of parts p.here)

-- return addresses that are to be pushed, the newest first
abbrev pub addresses_text : List ℕ → List ℕ
addresses_text pending = flat_map (λ a. codes " " ++ decimal a) pending

unfoldable pub pending_text : List ℕ → List ℕ
pending_text [] = []
pending_text (a ∷ rest) = codes " pending" ++ addresses_text (a ∷ rest)

-- the steps that a trace has made, the statement that it is before, and what is to be pushed
unfoldable pub spot_text : Spot → List ℕ
spot_text p =
    codes "  trace " ++ decimal p.steps ++ codes " " ++ decimal p.here ++ pending_text p.pending ++ codes ": "

-- the line of a statement that needs no instruction
abbrev pub over_word : Bool → List ℕ
over_word true = codes "passed over"
over_word false = codes "-"

unfoldable pub over_line : Fixed → Spot → List ℕ
over_line fixed p = spot_text p ++ over_word (passes fixed p.here) ++ codes "\n"

-- the lines of so many of them
abbrev pub over_text : LoweredParts → Fixed → ℕ → Spot → List ℕ
over_text parts fixed zero p = []
over_text parts fixed (suc n) p = over_line fixed p ++ over_text parts fixed n (over parts fixed p)

-- behind an instruction of a trace. FORGET removes all that is to be pushed
abbrev pub behind_by : Operation → Spot → Spot
behind_by op.Forget p = spot (p.here + 1) (p.steps + 1) []
behind_by other p = behind p

abbrev pub after : Instruction → Spot → Spot
after i p = if i.last then behind_by i.operation p else p

-- from where a run comes to the index of a trace that begins with a statement
abbrev pub came_by : Candidate → (n : ℕ) → Option Instruction → Option Origin → Spot
came_by t n None m = spot n 0 []
came_by t n (Some i) None = spot n 0 []
came_by t n (Some i) (Some m) = after i (spot_of t m)

abbrev pub came_from : Candidate → (n start at : ℕ) → Spot
came_from t n start at =
    if at == start then spot n 0 []
    else came_by t n (slice_get t.traces.code.items (at - 1)) (slice_get t.origins.items (at - 1))

-- the line of an instruction of a trace
unfoldable pub made_line : RegisterNames → Candidate → Instruction → Origin → List ℕ
made_line names t i m =
    spot_text (spot_of t m) ++ instruction_text names (own_of t.traces.exits.items i) ++ codes "\n"

-- the lines of the statements up to an instruction, and its own
abbrev pub piece_by : Lowered → Candidate → Spot → Option Instruction → Option Origin → List ℕ
piece_by lowered t p None m = []
piece_by lowered t p (Some i) None = []
piece_by lowered t p (Some i) (Some m) =
    over_text lowered.parts t.traces.fixed (m.steps - p.steps) p ++ made_line (lowered_names lowered) t i m

abbrev pub piece_at : Lowered → Candidate → (n start at : ℕ) → List ℕ
piece_at lowered t n start at =
    piece_by lowered t (came_from t n start at) (slice_get t.traces.code.items at) (slice_get t.origins.items at)

-- the lines of the trace with an index, up to its end
unfoldable pub trace_text : Lowered → Candidate → (n start : ℕ) → List ℕ
trace_text lowered t n start =
    flat_map (piece_at lowered t n start) (range_with_len start (way (drop start t.traces.code.items) + 1))

-- the lines of the trace that begins with a statement, if there is one
abbrev pub begun_text : Lowered → Candidate → (n : ℕ) → Option ℕ → List ℕ
begun_text lowered t n None = []
begun_text lowered t n (Some start) = trace_text lowered t n start

abbrev pub traces_text : Lowered → Option Candidate → (n : ℕ) → List ℕ
traces_text lowered None n = []
traces_text lowered (Some t) n = begun_text lowered t n (slice_get t.traces.heads.items n)

-- traces are those of the program
abbrev pub AreOfProgram : Lowered → Option Candidate → Type 0
AreOfProgram lowered None = Unit {0}
AreOfProgram lowered (Some t) = IsAccepted lowered.code.now lowered.parts t
