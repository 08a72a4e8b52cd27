-- The steps by which a statement is lowered, one for each operation, and their lines.
use Rattle.std.specs.Prelude.{ℕ, ◌≡◌, ◌+◌, ◌-◌, ◌==◌, ◌&&◌, Bool, true, false, List, [], ◌∷◌, ◌++◌, codes}
use Rattle.std.specs.Prelude.{decimal, length, min, take, drop, nat_lt, if◌then◌else◌, Option, Some, None, slice_get}
use Rattle.std.specs.List.{flat_map}
use Rattle.std.specs.Prelude.{replicate}
use Rattle.ick_code.specs.Counts.{pushed_by}
use Rattle.ick_code.specs.Effects.{Slots}
use Rattle.ick_code.specs.declared.op.Op.{Op}
use Rattle.ick_code.specs.declared.op.Op.TheVariants as of
use Rattle.ick_instructions.specs.declared.instruction.Instruction.{Instruction}
use Rattle.ick_instructions.specs.declared.layout.Layout.{Layout}
use Rattle.ick_lowering.specs.declared.draft.StatementDraft.{StatementDraft}
use Rattle.ick_lowering.specs.declared.value.Operand.{Operand}
use Rattle.ick_lowering.specs.Lowering.{Follows, Reached}
use Rattle.ick_inspect.specs.Text.{Adds}
use Rattle.ick_inspect.specs.declared.text.Text.{Text}
use Rattle.ick_stages.specs.Instructions.{instruction_text}
use Rattle.ick_stages.specs.Registers.{RegisterNames}
use Rattle.ick_stages.specs.Rules.{Seen, rules_text}
use Rattle.ick_stages.specs.Values.{value_text}
use Rattle.ick_stages.specs.declared.steps.Before.{Before}
use Rattle.ick_stages.specs.declared.steps.Makers.{Makers}
use Rattle.ick_syntax.specs.StatementTree.{StatementTree}
use Rattle.ick_syntax.specs.declared.tree.Name.{Name}
use Rattle.ick_syntax.specs.declared.tree.NameKind.{NameKind}
use Rattle.ick_syntax.specs.declared.tree.NameKind.TheVariants.{Twospot}

-- the operand with so many from it on, as the newest one for 1
abbrev pub operand_at : StatementDraft → ℕ → Option Operand
operand_at draft newest = slice_get draft.stack.items (length draft.stack.items - newest)

-- what a draft has before an operation
abbrev pub before_of : StatementDraft → Before
before_of draft = record {
  count = length draft.instructions.items;
  left = operand_at draft 2;
  right = operand_at draft 1;
}

-- an operation stores in a scalar, and in a twospot
abbrev pub is_store : Op → Bool
is_store (of.Store slot) = true
is_store other = false

abbrev pub is_twospot : NameKind → Bool
is_twospot Twospot = true
is_twospot other = false

abbrev pub names_twospot : Option Name → Bool
names_twospot None = false
names_twospot (Some name) = is_twospot name.kind

abbrev pub stores_twospot : Slots → Op → Bool
stores_twospot slots (of.Store slot) = names_twospot (slice_get slots.scalars slot)
stores_twospot slots other = false

-- a store that leaves as many instructions replaced the last one
abbrev pub replaces : Op → (before after : ℕ) → Bool
replaces op before after = is_store op && after == before && nat_lt 0 after

abbrev pub first_made : Bool → (before after : ℕ) → ℕ
first_made true before after = after - 1
first_made false before after = min before after

-- what is seen of a step
abbrev pub seen_by : Slots → Op → Before → StatementDraft → Seen
seen_by slots op before new =
    let after = length new.instructions.items in
    let replaced = replaces op before.count after in record {
      op = op;
      is_twospot = stores_twospot slots op;
      left = before.left;
      right = before.right;
      made = drop (first_made replaced before.count after) new.instructions.items;
      replaced = replaced;
      top = operand_at new 1;
    }

-- instructions, the first one behind `: ` and each other one behind ` | `
abbrev pub others_text : RegisterNames → List Instruction → List ℕ
others_text names is = flat_map (λ i. codes " | " ++ instruction_text names i) is

unfoldable pub made_text : RegisterNames → List Instruction → List ℕ
made_text names [] = []
made_text names (i ∷ is) = codes ": " ++ instruction_text names i ++ others_text names is

-- the operand that a step leaves, behind ` -> `
abbrev pub operand_text : RegisterNames → Option Operand → List ℕ
operand_text names None = []
operand_text names (Some o) = codes " -> " ++ value_text names o

abbrev pub left_text : RegisterNames → Seen → List ℕ
left_text names s = if pushed_by s.op == 0 then [] else operand_text names s.top

abbrev pub is_constant : Op → Bool
is_constant (of.Constant n) = true
is_constant other = false

unfoldable pub rule_line : RegisterNames → (number : ℕ) → Seen → List ℕ
rule_line names number s =
    codes "  rule " ++ decimal number ++ codes " " ++ rules_text names s ++ made_text names s.made ++ left_text names s
    ++ codes "\n"

-- the line of a step; a constant has none
abbrev pub step_text : RegisterNames → (number : ℕ) → Seen → List ℕ
step_text names number s = if is_constant s.op then [] else rule_line names number s

-- lines that are asked for, or nothing
abbrev pub asked_text : Bool → List ℕ → List ℕ
asked_text asked lines = if asked then lines else []

-- the operation that made each instruction, and the one that replaced the last instruction, or 0
pub record Made : Type 0 where
  pub first : List ℕ
  pub store : ℕ

abbrev pub made_of : Makers → Made
made_of makers = record { first = makers.first.items; store = makers.store }

abbrev pub resized : List ℕ → (count number : ℕ) → List ℕ
resized xs count number = take count xs ++ replicate (count - length xs) number

-- an operation left so many instructions
abbrev pub noted : (number : ℕ) → (replaced : Bool) → (count : ℕ) → Made → Made
noted number replaced count made = record {
  first = resized made.first count number;
  store = if replaced then number else if nat_lt (length made.first) count then 0 else made.store;
}

-- the names that a draft has for registers
abbrev pub names_in : Slots → Layout → StatementDraft → RegisterNames
names_in slots layout draft = record {
  slots = slots;
  layout = layout;
  constants = draft.constants.list.items;
  subscripts = draft.subscripts.items;
}

-- one step more: its line, and who made the instructions
abbrev pub line_by : Slots → Layout → (number : ℕ) → Op → (old new : StatementDraft) → List ℕ
line_by slots layout number op old new =
    step_text (names_in slots layout new) number (seen_by slots op (before_of old) new)

abbrev pub made_by : (number : ℕ) → Op → (old new : StatementDraft) → Made → Made
made_by number op old new made =
    let count = length new.instructions.items in
    noted number (replaces op (length old.instructions.items) count) count made

-- From draft to draft by operations, one after another, the lines of these steps, and who made the instructions. Behind
-- each step the instructions do what the operations up to there do, and the facts hold of the values.
pub data AreSteps (program : List StatementTree) (slots : Slots) (layout : Layout)
    : List Op → StatementDraft → StatementDraft → List ℕ → Made → Type 0 where
  no_step : {d : StatementDraft} → AreSteps program slots layout [] d d [] (record { first = []; store = 0 })
  one_more : {ops : List Op} {op : Op} {first old new : StatementDraft} {lines : List ℕ} {made : Made} →
      AreSteps program slots layout ops first old lines made →
      Follows program slots layout op old new →
      Reached program slots layout (ops ++ op ∷ []) new →
      AreSteps program slots layout (ops ++ op ∷ []) first new
      (lines ++ line_by slots layout (length ops + 1) op old new)
      (made_by (length ops + 1) op old new made)

-- a draft without instructions and operands, with the subscripts and the constants of another one
pub record IsCleared (old new : StatementDraft) : Type 0 where
  pub instructions : new.instructions.items ≡ []
  pub stack : new.stack.items ≡ []
  pub used : new.used ≡ 0
  pub subscripts : new.subscripts.items ≡ old.subscripts.items
  pub constants : new.constants ≡ old.constants

-- the statement was lowered again by such steps, and their lines were added if they are asked for
pub record HasSteps (program : List StatementTree) (slots : Slots) (layout : Layout) (asked : Bool) (ops : List Op)
    (old new : StatementDraft) (before after : Text) (made : Made) : Type 0 where
  pub first : StatementDraft
  pub cleared : IsCleared old first
  pub lines : List ℕ
  pub steps : AreSteps program slots layout ops first new lines made
  pub added : Adds before after (asked_text asked lines)
