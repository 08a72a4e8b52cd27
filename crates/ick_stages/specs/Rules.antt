-- The names of the rules of lowering, by what is seen of a step.
use Rattle.std.specs.Prelude.{ℕ, ◌-◌, ◌==◌, ◌&&◌, Bool, true, false, List, [], ◌∷◌, ◌++◌, codes, length, bit_and}
use Rattle.std.specs.Prelude.{nat_le}
use Rattle.std.specs.Prelude.{nat_lt, if◌then◌else◌, Option, Some, None, slice_get}
use Rattle.ick_code.specs.declared.op.Op.{Op}
use Rattle.ick_code.specs.declared.op.Op.TheVariants as of
use Rattle.ick_instructions.specs.declared.instruction.{Instruction.Instruction, Operation.Operation}
use Rattle.ick_instructions.specs.declared.instruction.Operation.TheVariants as op
use Rattle.ick_lowering.specs.declared.value.{Operand.Operand, OperandWidth.OperandWidth, Shape.Shape}
use Rattle.ick_lowering.specs.declared.value.OperandWidth.TheVariants.{Narrow}
use Rattle.ick_lowering.specs.declared.value.Shape.TheVariants.{Mingle}
use Rattle.ick_stages.specs.Registers.{RegisterNames}
use Rattle.ick_stages.specs.declared.rule.Step.{Step}

-- what is seen of a step: the operation, whether it stores in a twospot, the two newest operands before it, the
-- instructions that it made, whether the first of them replaced one, and the newest operand behind it
pub record Seen : Type 0 where
  pub op : Op
  pub is_twospot : Bool
  pub left : Option Operand
  pub right : Option Operand
  pub made : List Instruction
  pub replaced : Bool
  pub top : Option Operand

abbrev pub seen_of : Step → Seen
seen_of s = record {
  op = s.op;
  is_twospot = s.is_twospot;
  left = s.left;
  right = s.right;
  made = s.made.now;
  replaced = s.replaced;
  top = s.top;
}

-- the last instruction's operation
abbrev pub operation_at : Option Instruction → Option Operation
operation_at None = None
operation_at (Some i) = Some i.operation

abbrev pub last_operation : List Instruction → Option Operation
last_operation [] = None
last_operation (i ∷ is) = operation_at (slice_get (i ∷ is) (length is))

-- an operand is a constant, and its number
abbrev pub is_known : RegisterNames → Option Operand → Bool
is_known names None = false
is_known names (Some o) = nat_le names.layout.first o.register

abbrev pub mask_of : RegisterNames → Option Operand → Option ℕ
mask_of names None = None
mask_of names (Some o) =
    if nat_le names.layout.first o.register then slice_get names.constants (o.register - names.layout.first) else None

-- an operand is a mingle, or has 16 bits
abbrev pub has_mingle : Shape → Bool
has_mingle (Mingle a b f g) = true
has_mingle other = false

abbrev pub is_mingled : Option Operand → Bool
is_mingled None = false
is_mingled (Some o) = has_mingle o.facts.shape

abbrev pub is_16 : OperandWidth → Bool
is_16 Narrow = true
is_16 other = false

abbrev pub has_narrow : Option Operand → Bool
has_narrow None = false
has_narrow (Some o) = is_16 o.facts.width

abbrev pub have_one_register : Option Operand → Option Operand → Bool
have_one_register (Some a) (Some b) = a.register == b.register
have_one_register (Some a) None = false
have_one_register None b = false

-- the operand of a mingle that a mask selects from: no one at an odd position, or none at an even one
abbrev pub side_by : Bool → Option ℕ → List ℕ
side_by true (Some mask) =
    if bit_and mask 2863311530 == 0 then codes "select-from-the-right-operand+"
    else if bit_and mask 1431655765 == 0 then codes "select-from-the-left-operand+" else []
side_by true None = []
side_by false mask = []

abbrev pub side_text : RegisterNames → (left right : Option Operand) → List ℕ
side_text names left right = side_by (is_mingled left) (mask_of names right)

abbrev pub rule_of_unary : Option Operation → List ℕ
rule_of_unary None = codes "fold-a-unary-operator"
rule_of_unary (Some op.Pick) = codes "few-bits"
rule_of_unary (Some other) = codes "as-it-is"

-- a mingle has no check if it needs fewer than two
abbrev pub mingled_by : (count : ℕ) → Option Operation → List ℕ
mingled_by count None = codes "fold-a-mingle"
mingled_by count (Some op.Pick) = codes "few-bits"
mingled_by count (Some op.LookUp) = codes "mingle-by-a-table"
mingled_by count (Some op.Field) = codes "join-the-halves-of-a-field"
mingled_by count (Some op.And) = codes "join-the-halves-of-an-operator"
mingled_by count (Some op.Or) = codes "join-the-halves-of-an-operator"
mingled_by count (Some op.Xor) = codes "join-the-halves-of-an-operator"
mingled_by count (Some op.Mingle) = if nat_lt count 3 then codes "no-check" else codes "as-it-is"
mingled_by count (Some other) = codes "as-it-is"

abbrev pub rule_of_mingle : List Instruction → List ℕ
rule_of_mingle made = mingled_by (length made) (last_operation made)

abbrev pub rule_of_select : Operation → (one_register : Bool) → List ℕ
rule_of_select op.Pick one = codes "few-bits"
rule_of_select op.ShiftIn one = codes "shift-left"
rule_of_select op.AndShifted one = codes "shift-the-right-operand"
rule_of_select op.OrShifted one = codes "shift-the-right-operand"
rule_of_select op.XorShifted one = codes "shift-the-right-operand"
rule_of_select op.And one = codes "half-of-a-unary-of-a-mingle"
rule_of_select op.Or one = codes "half-of-a-unary-of-a-mingle"
rule_of_select op.Xor one = codes "half-of-a-unary-of-a-mingle"
rule_of_select op.AndRotated one = codes "half-of-a-unary-of-a-mingle"
rule_of_select op.OrRotated one = codes "half-of-a-unary-of-a-mingle"
rule_of_select op.XorRotated one = codes "half-of-a-unary-of-a-mingle"
rule_of_select op.Ones one = if one then codes "n~n" else codes "one-field-twice"
rule_of_select op.NonZero one = codes "n~n"
rule_of_select other one = codes "as-it-is"

-- the rules of a selection: by the operands of a mingle that it may select from, and by what it makes
abbrev pub selects_by : (side : List ℕ) → (folded one : Bool) → Option Operation → List ℕ
selects_by side true one None = codes "fold-a-select"
selects_by side false one None = side ++ codes "select-all"
selects_by side folded one (Some op.LookUp) = side ++ codes "select-by-a-table"
selects_by side folded one (Some op.Field) = side ++ codes "select-a-field"
selects_by side folded one (Some other) = rule_of_select other one

abbrev pub select_rules : RegisterNames → Seen → List ℕ
select_rules names s =
    selects_by (side_text names s.left s.right) (is_known names s.top && is_known names s.left)
    (have_one_register s.left s.right) (last_operation s.made)

abbrev pub stored_by : (is_twospot is_narrow : Bool) → Option Operation → List ℕ
stored_by two narrow (Some op.Fetch) = codes "fetch-into-the-scalar"
stored_by two narrow other =
    if two then codes "calculate-into-a-twospot"
    else if narrow then codes "calculate-into-the-scalar" else codes "calculate-into-the-scalar+no-fault-275"

abbrev pub copied_by : Option Operation → List ℕ
copied_by (Some op.Copy) = codes "copy-in-place-of-a-store"
copied_by other = codes "as-it-is"

abbrev pub rule_of_store : Seen → List ℕ
rule_of_store s =
    if s.replaced then stored_by s.is_twospot (has_narrow s.right) (last_operation s.made)
    else copied_by (last_operation s.made)

abbrev pub stays_by : List Instruction → List ℕ
stays_by [] = codes "statement-that-stays"
stays_by (i ∷ is) = codes "as-it-is"

abbrev pub rules_by : Op → RegisterNames → Seen → List ℕ
rules_by (of.Constant n) names s = codes "constant"
rules_by (of.Load slot) names s = codes "read-in-place"
rules_by of.And names s = rule_of_unary (last_operation s.made)
rules_by of.Or names s = rule_of_unary (last_operation s.made)
rules_by of.Xor names s = rule_of_unary (last_operation s.made)
rules_by of.Mingle names s = rule_of_mingle s.made
rules_by of.Select names s = select_rules names s
rules_by (of.Store slot) names s = rule_of_store s
rules_by (of.AbstainOne n) names s = stays_by s.made
rules_by (of.ReinstateOne n) names s = stays_by s.made
rules_by other names s = codes "as-it-is"

-- the names of the rules of a step, or `as-it-is`
abbrev pub rules_text : RegisterNames → Seen → List ℕ
rules_text names s = rules_by s.op names s
