-- Operations, each as its word and what it names: `Load .1`, `Fetch ,1 2`, `Constant 65535`.
use Rattle.std.specs.Prelude.{ℕ, ◌+◌, ◌-◌, List, [], ◌∷◌, ◌++◌, codes, decimal}
use Rattle.ick_code.specs.declared.op.Op.{Op}
use Rattle.ick_code.specs.declared.op.Op.TheVariants.{Constant, Load, Fetch, And, Or, Xor, Mingle, Select, Store}
use Rattle.ick_code.specs.declared.op.Op.TheVariants.{StoreAt, Resize, Call, Forget, Resume, Save, Restore, Hide, Show}
use Rattle.ick_code.specs.declared.op.Op.TheVariants.{AbstainOne, ReinstateOne, AbstainKind, ReinstateKind, Print}
use Rattle.ick_code.specs.declared.op.Op.TheVariants.{ReadTo, ReadAt, PrintArray, ReadArray, Stop, Fail}
use Rattle.ick_code.specs.declared.op.SlotName.TheVariants.{Scalar, Array}
use Rattle.ick_code.specs.Effects.{Slots}
use Rattle.ick_code.specs.Counts.{popped_by, pushed_by}
use Rattle.ick_stages.specs.Bodies.{gerund_text}
use Rattle.ick_stages.specs.Names.{slot_text}

unfoldable pub counted_text : Slots → ℕ → ℕ → List ℕ
counted_text slots array count = codes " " ++ slot_text slots (Array array) ++ codes " " ++ decimal count

abbrev pub op_word : Op → List ℕ
op_word (Constant n) = codes "Constant"
op_word (Load slot) = codes "Load"
op_word (Fetch slot count) = codes "Fetch"
op_word And = codes "And"
op_word Or = codes "Or"
op_word Xor = codes "Xor"
op_word Mingle = codes "Mingle"
op_word Select = codes "Select"
op_word (Store slot) = codes "Store"
op_word (StoreAt slot count) = codes "StoreAt"
op_word (Resize slot count) = codes "Resize"
op_word (Call n) = codes "Call"
op_word Forget = codes "Forget"
op_word Resume = codes "Resume"
op_word (Save name) = codes "Save"
op_word (Restore name) = codes "Restore"
op_word (Hide name) = codes "Hide"
op_word (Show name) = codes "Show"
op_word (AbstainOne n) = codes "AbstainOne"
op_word (ReinstateOne n) = codes "ReinstateOne"
op_word (AbstainKind g) = codes "AbstainKind"
op_word (ReinstateKind g) = codes "ReinstateKind"
op_word Print = codes "Print"
op_word (ReadTo slot) = codes "ReadTo"
op_word (ReadAt slot count) = codes "ReadAt"
op_word (PrintArray slot) = codes "PrintArray"
op_word (ReadArray slot) = codes "ReadArray"
op_word Stop = codes "Stop"
op_word Fail = codes "Fail"

-- what an operation names, behind a space
abbrev pub named_text : Slots → Op → List ℕ
named_text slots (Constant n) = codes " " ++ decimal n
named_text slots (Load slot) = codes " " ++ slot_text slots (Scalar slot)
named_text slots (Fetch slot count) = counted_text slots slot count
named_text slots (Store slot) = codes " " ++ slot_text slots (Scalar slot)
named_text slots (StoreAt slot count) = counted_text slots slot count
named_text slots (Resize slot count) = counted_text slots slot count
named_text slots (Call n) = codes " " ++ decimal n
named_text slots (Save name) = codes " " ++ slot_text slots name
named_text slots (Restore name) = codes " " ++ slot_text slots name
named_text slots (Hide name) = codes " " ++ slot_text slots name
named_text slots (Show name) = codes " " ++ slot_text slots name
named_text slots (AbstainOne n) = codes " " ++ decimal n
named_text slots (ReinstateOne n) = codes " " ++ decimal n
named_text slots (AbstainKind g) = codes " " ++ gerund_text g
named_text slots (ReinstateKind g) = codes " " ++ gerund_text g
named_text slots (ReadTo slot) = codes " " ++ slot_text slots (Scalar slot)
named_text slots (ReadAt slot count) = counted_text slots slot count
named_text slots (PrintArray slot) = codes " " ++ slot_text slots (Array slot)
named_text slots (ReadArray slot) = codes " " ++ slot_text slots (Array slot)
named_text slots _ = []

unfoldable pub op_text : Slots → Op → List ℕ
op_text slots op = op_word op ++ named_text slots op

-- `  operation 3 1 Mingle`
unfoldable pub operation_line : Slots → (number depth : ℕ) → Op → List ℕ
operation_line slots number depth op =
    codes "  operation " ++ decimal number ++ codes " " ++ decimal depth ++ codes " " ++ op_text slots op ++ codes "\n"

-- a line for each operation behind so many others, which left so many operands
abbrev pub operations_from : Slots → (number depth : ℕ) → List Op → List ℕ
operations_from slots number depth [] = []
operations_from slots number depth (op ∷ ops) =
    let left = depth - popped_by op + pushed_by op in
    operation_line slots (number + 1) left op ++ operations_from slots (number + 1) left ops

-- a line for each operation
abbrev pub operations_text : Slots → List Op → List ℕ
operations_text slots ops = operations_from slots 0 0 ops
