-- The instructions that are left of a statement, the operations that they come of, and the instructions that are
-- dropped.
use Rattle.std.specs.Prelude.{ℕ, zero, suc, ◌+◌, ◌-◌, ◌==◌, ◌&&◌, ◌||◌, Bool, true, false, List, [], ◌∷◌, ◌++◌, codes}
use Rattle.std.specs.Prelude.{decimal, length, min, take, drop, if◌then◌else◌, Option, Some, None, slice_get}
use Rattle.std.specs.List.{flat_map, range_with_len}
use Rattle.std.specs.Str.{bytes_eq}
use Rattle.ick_instructions.specs.declared.instruction.{Instruction.Instruction, Operation.Operation}
use Rattle.ick_instructions.specs.declared.instruction.Operation.TheVariants as op
use Rattle.ick_instructions.specs.declared.lowered.LoweredParts.{LoweredParts}
use Rattle.ick_stages.specs.Instructions.{instruction_text, operation_word}
use Rattle.ick_stages.specs.Registers.{RegisterNames}
use Rattle.ick_stages.specs.Steps.{Made}
use Rattle.ick_stages.specs.declared.left.Left.{Left}
use Rattle.ick_stages.specs.declared.left.Sorted.{Sorted}

-- the instructions that are left, the indexes of those that are dropped, and the operation of an instruction whose
-- effect the next one that is left also has, or 0
pub record Sorts : Type 0 where
  pub left : List Left
  pub dropped : List ℕ
  pub begun : ℕ

abbrev pub sorts_of : Sorted → Sorts
sorts_of s = record { left = s.left.items; dropped = s.dropped.items; begun = s.begun }

abbrev pub is_shifted : Operation → Bool
is_shifted op.AndShifted = true
is_shifted other = false

abbrev pub is_or : Operation → Bool
is_or op.Or = true
is_or other = false

abbrev pub is_carry : Operation → Bool
is_carry op.Carry = true
is_carry other = false

-- two instructions are one, wherever their statement ends
abbrev pub is_same : Instruction → Instruction → Bool
is_same a b =
    bytes_eq (operation_word a.operation) (operation_word b.operation) && a.to == b.to && a.left == b.left
    && a.right == b.right && a.number == b.number

-- an instruction is the shifted and of a carry, or its or
abbrev pub begins_carry : Instruction → Instruction → Bool
begins_carry and carry =
    is_shifted and.operation && is_carry carry.operation && and.left == carry.left && and.right == carry.right
    && and.number == carry.number

abbrev pub ends_carry : Instruction → Instruction → Bool
ends_carry or carry =
    is_or or.operation && is_carry carry.operation && or.to == carry.to && or.left == carry.right

-- one instruction more, at an index, which an operation made. `next` is the next one that the statement has
abbrev pub dropped_at : ℕ → Sorts → Sorts
dropped_at at s = record { left = s.left; dropped = s.dropped ++ at ∷ []; begun = s.begun }

abbrev pub left_at : ℕ → Sorts → Sorts
left_at at s = record { left = s.left ++ record { at = at; begun = s.begun } ∷ []; dropped = s.dropped; begun = 0 }

abbrev pub begun_by : ℕ → Sorts → Sorts
begun_by maker s = record { left = s.left; dropped = s.dropped; begun = maker }

abbrev pub sort_one : (next : Option Instruction) → Instruction → (at maker : ℕ) → Sorts → Sorts
sort_one None i at maker s = dropped_at at s
sort_one (Some next) i at maker s =
    if begins_carry i next then begun_by maker s
    else if is_same i next || ends_carry i next then left_at at s else dropped_at at s

abbrev pub sort_found : (next : Option Instruction) → Option Instruction → (at maker : ℕ) → Sorts → Sorts
sort_found next None at maker s = s
sort_found next (Some i) at maker s = sort_one next i at maker s

abbrev pub found_maker : Option ℕ → ℕ
found_maker None = 0
found_maker (Some maker) = maker

abbrev pub maker_at : List ℕ → ℕ → ℕ
maker_at first at = found_maker (slice_get first at)

-- the first instructions of a draft, sorted by those that the statement has
abbrev pub sorted_first : (instructions : List Instruction) → (first : List ℕ) → (kept : List Instruction) → ℕ → Sorts
sorted_first instructions first kept zero = record { left = []; dropped = []; begun = 0 }
sorted_first instructions first kept (suc n) =
    sort_found (slice_get kept (length (sorted_first instructions first kept n).left)) (slice_get instructions n) n
    (maker_at first n) (sorted_first instructions first kept n)

-- the instructions of statement `n`
abbrev pub start_found : (count : ℕ) → Option ℕ → ℕ
start_found count None = count
start_found count (Some start) = min start count

abbrev pub start_at : LoweredParts → ℕ → ℕ
start_at parts n = start_found (length parts.instructions.items) (slice_get parts.starts.items n)

abbrev pub kept_of : LoweredParts → ℕ → List Instruction
kept_of parts n = take (start_at parts (n + 1) - start_at parts n) (drop (start_at parts n) parts.instructions.items)

-- a line for each instruction that is dropped
unfoldable pub dropped_line : RegisterNames → (maker : ℕ) → Instruction → List ℕ
dropped_line names maker i = codes "  dropped " ++ decimal maker ++ codes " " ++ instruction_text names i ++ codes "\n"

abbrev pub dropped_found : RegisterNames → (maker : ℕ) → Option Instruction → List ℕ
dropped_found names maker None = []
dropped_found names maker (Some i) = dropped_line names maker i

abbrev pub dropped_by : RegisterNames → List Instruction → (first : List ℕ) → ℕ → List ℕ
dropped_by names instructions first at = dropped_found names (maker_at first at) (slice_get instructions at)

abbrev pub dropped_text : RegisterNames → List Instruction → (first : List ℕ) → (dropped : List ℕ) → List ℕ
dropped_text names instructions first dropped = flat_map (λ at. dropped_by names instructions first at) dropped

-- the operations that an instruction comes of
abbrev pub spaced_by : ℕ → List ℕ
spaced_by n = codes " " ++ decimal n

abbrev pub number_by : ℕ → List ℕ
number_by n = if n == 0 then [] else spaced_by n

abbrev pub store_by : Made → ℕ → List ℕ
store_by made at = if at + 1 == length made.first then number_by made.store else []

unfoldable pub some_makers : Made → Left → List ℕ
some_makers made left =
    codes " by" ++ number_by left.begun ++ number_by (maker_at made.first left.at) ++ store_by made left.at

abbrev pub makers_text : Made → Option Left → List ℕ
makers_text made None = []
makers_text made (Some left) = some_makers made left

-- a line for each instruction that is left
unfoldable pub left_line : RegisterNames → Made → Option Left → (number : ℕ) → Instruction → List ℕ
left_line names made left number i =
    codes "  instruction " ++ decimal number ++ makers_text made left ++ codes ": " ++ instruction_text names i
    ++ codes "\n"

abbrev pub line_found : RegisterNames → Made → Option Left → (number : ℕ) → Option Instruction → List ℕ
line_found names made left number None = []
line_found names made left number (Some i) = left_line names made left number i

abbrev pub line_at : RegisterNames → Made → List Left → List Instruction → ℕ → List ℕ
line_at names made left kept at = line_found names made (slice_get left at) (at + 1) (slice_get kept at)

unfoldable pub instructions_text : RegisterNames → Made → List Left → List Instruction → List ℕ
instructions_text names made left kept =
    flat_map (line_at names made left kept) (range_with_len 0 (length kept))
