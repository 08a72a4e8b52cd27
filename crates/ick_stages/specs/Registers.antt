-- Registers by their names: `.1`, `t1`, `#7`.
use Rattle.std.specs.Prelude.{ℕ, ◌+◌, ◌-◌, List, [], ◌∷◌, ◌++◌, codes, decimal, Option, Some, None, slice_get, nat_lt}
use Rattle.std.specs.Prelude.{if◌then◌else◌}
use Rattle.std.specs.List.{flat_map}
use Rattle.ick_code.specs.Compiled.{code_slots}
use Rattle.ick_code.specs.declared.code.Code.{Code}
use Rattle.ick_code.specs.declared.op.SlotName.TheVariants.{Scalar}
use Rattle.ick_code.specs.Effects.{Slots}
use Rattle.ick_instructions.specs.declared.layout.Layout.{Layout}
use Rattle.ick_instructions.specs.declared.lowered.Lowered.{Lowered}
use Rattle.ick_lowering.specs.declared.draft.StatementDraft.{StatementDraft}
use Rattle.ick_stages.specs.Names.{slot_text}
use Rattle.ick_stages.specs.declared.registers.Registers.{Registers}

-- what the registers hold, whatever memory the lists are in
pub record RegisterNames : Type 0 where
  pub slots : Slots
  pub layout : Layout
  pub constants : List ℕ
  pub subscripts : List ℕ

abbrev pub names_of : Registers → RegisterNames
names_of r = record {
  slots = code_slots r.code.now;
  layout = r.layout;
  constants = r.constants.now;
  subscripts = r.subscripts.now;
}

-- those of a draft and of a lowered program
abbrev pub drafted : Code → Layout → StatementDraft → RegisterNames
drafted code layout draft = record {
  slots = code_slots code;
  layout = layout;
  constants = draft.constants.list.items;
  subscripts = draft.subscripts.items;
}

abbrev pub lowered_names : Lowered → RegisterNames
lowered_names lowered = record {
  slots = code_slots lowered.code.now;
  layout = lowered.parts.layout;
  constants = lowered.parts.constants.items;
  subscripts = lowered.parts.subscripts.items;
}

abbrev pub constant_text : Option ℕ → List ℕ
constant_text None = []
constant_text (Some n) = codes "#" ++ decimal n

-- a scalar by its name, a temporary as `t1`, a constant as `#7`
unfoldable pub register_text : RegisterNames → ℕ → List ℕ
register_text names r =
    if nat_lt r names.layout.base then slot_text names.slots (Scalar r)
    else if nat_lt r names.layout.first then codes "t" ++ decimal ((r - names.layout.base) + 1)
    else constant_text (slice_get names.constants (r - names.layout.first))

-- registers, each behind a space
unfoldable pub registers_text : RegisterNames → List ℕ → List ℕ
registers_text names registers = flat_map (λ r. codes " " ++ register_text names r) registers

-- registers with spaces between them, in parentheses
abbrev pub spaced_text : RegisterNames → List ℕ → List ℕ
spaced_text names [] = []
spaced_text names (r ∷ rs) = register_text names r ++ registers_text names rs

unfoldable pub listed_text : RegisterNames → List ℕ → List ℕ
listed_text names registers = codes "(" ++ spaced_text names registers ++ codes ")"
