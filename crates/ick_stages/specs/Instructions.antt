-- Instructions: `.1 = Xor .1 .2`, `t1 = Field .1 3 00000001`, `,1 = StoreAt .2 (.1)`, `Call 9`.
use Rattle.std.specs.Prelude.{ℕ, ◌+◌, ◌/◌, ◌%◌, slice_range, List, [], ◌∷◌, ◌++◌, codes, decimal, Option, Some, None}
use Rattle.std.specs.Prelude.{slice_get, take}
use Rattle.std.specs.Prelude.{Bool, true, false, drop, if◌then◌else◌}
use Rattle.ick_code.specs.declared.op.SlotName.TheVariants.{Scalar, Array}
use Rattle.ick_instructions.specs.declared.formats.Field.{Field}
use Rattle.ick_instructions.specs.declared.formats.Field.TheVariants as is
use Rattle.ick_instructions.specs.declared.instruction.{Instruction.Instruction, Operation.Operation}
use Rattle.ick_instructions.specs.declared.instruction.Operation.TheVariants as op
use Rattle.ick_instructions.specs.Formats.{format}
use Rattle.ick_stages.specs.Names.{slot_text}
use Rattle.ick_stages.specs.Registers.{RegisterNames, listed_text, register_text}
use Rattle.ick_stages.specs.Tables.{table_text}

abbrev pub operation_word : Operation → List ℕ
operation_word op.Copy = codes "Copy"
operation_word op.AndNarrow = codes "AndNarrow"
operation_word op.OrNarrow = codes "OrNarrow"
operation_word op.XorNarrow = codes "XorNarrow"
operation_word op.AndWide = codes "AndWide"
operation_word op.OrWide = codes "OrWide"
operation_word op.XorWide = codes "XorWide"
operation_word op.AndBy = codes "AndBy"
operation_word op.OrBy = codes "OrBy"
operation_word op.XorBy = codes "XorBy"
operation_word op.Mingle = codes "Mingle"
operation_word op.Select = codes "Select"
operation_word op.Field = codes "Field"
operation_word op.ShiftIn = codes "ShiftIn"
operation_word op.LookUp = codes "LookUp"
operation_word op.Pick = codes "Pick"
operation_word op.And = codes "And"
operation_word op.Or = codes "Or"
operation_word op.Xor = codes "Xor"
operation_word op.AndRotated = codes "AndRotated"
operation_word op.OrRotated = codes "OrRotated"
operation_word op.XorRotated = codes "XorRotated"
operation_word op.AndShifted = codes "AndShifted"
operation_word op.OrShifted = codes "OrShifted"
operation_word op.XorShifted = codes "XorShifted"
operation_word op.Carry = codes "Carry"
operation_word op.Ones = codes "Ones"
operation_word op.NonZero = codes "NonZero"
operation_word op.Fetch = codes "Fetch"
operation_word op.Check = codes "Check"
operation_word op.Store = codes "Store"
operation_word op.StoreAt = codes "StoreAt"
operation_word op.Resize = codes "Resize"
operation_word op.Call = codes "Call"
operation_word op.Forget = codes "Forget"
operation_word op.Resume = codes "Resume"
operation_word op.SaveScalar = codes "SaveScalar"
operation_word op.SaveArray = codes "SaveArray"
operation_word op.RestoreScalar = codes "RestoreScalar"
operation_word op.RestoreArray = codes "RestoreArray"
operation_word op.HideScalar = codes "HideScalar"
operation_word op.HideArray = codes "HideArray"
operation_word op.ShowScalar = codes "ShowScalar"
operation_word op.ShowArray = codes "ShowArray"
operation_word op.Abstain = codes "Abstain"
operation_word op.Reinstate = codes "Reinstate"
operation_word op.AbstainKind = codes "AbstainKind"
operation_word op.ReinstateKind = codes "ReinstateKind"
operation_word op.Print = codes "Print"
operation_word op.ReadTo = codes "ReadTo"
operation_word op.ReadAt = codes "ReadAt"
operation_word op.PrintArray = codes "PrintArray"
operation_word op.ReadArray = codes "ReadArray"
operation_word op.Stop = codes "Stop"
operation_word op.Fail = codes "Fail"
operation_word op.Pass = codes "Pass"

-- eight hexadecimal digits
abbrev pub digit_text : ℕ → List ℕ
digit_text n = slice_range (codes "0123456789abcdef") (n % 16) ((n % 16) + 1)

unfoldable pub half_text : ℕ → List ℕ
half_text n = digit_text (n / 4096) ++ digit_text (n / 256) ++ digit_text (n / 16) ++ digit_text n

unfoldable pub hex_text : ℕ → List ℕ
hex_text n = half_text (n / 65536) ++ half_text n

-- the words for the kinds of statements
abbrev pub kind_words : List (List ℕ)
kind_words =
    codes "CALCULATE" ∷ codes "NEXT" ∷ codes "FORGET" ∷ codes "RESUME" ∷ codes "STASH" ∷ codes "RETRIEVE"
    ∷ codes "IGNORE" ∷ codes "REMEMBER" ∷ codes "ABSTAIN" ∷ codes "REINSTATE" ∷ codes "GIVE-UP" ∷ codes "WRITE-IN"
    ∷ codes "READ-OUT" ∷ codes "UNRECOGNISED" ∷ []

abbrev pub kind_text : Option (List ℕ) → List ℕ
kind_text None = []
kind_text (Some word) = codes " " ++ word

-- what the number of an instruction is: how many subscripts there are, the number of a kind, or a mask
abbrev pub counts_subscripts : Operation → Bool
counts_subscripts op.Fetch = true
counts_subscripts op.StoreAt = true
counts_subscripts op.Resize = true
counts_subscripts op.ReadAt = true
counts_subscripts other = false

abbrev pub names_kind : Operation → Bool
names_kind op.AbstainKind = true
names_kind op.ReinstateKind = true
names_kind other = false

abbrev pub has_mask : Operation → Bool
has_mask op.Field = true
has_mask other = false

-- the number of an instruction, behind a space. The number of subscripts is left out
unfoldable pub number_text : Operation → ℕ → List ℕ
number_text operation n =
    if counts_subscripts operation then []
    else if names_kind operation then kind_text (slice_get kind_words n)
    else if has_mask operation then codes " " ++ hex_text n else codes " " ++ decimal n

unfoldable pub subscripts_text : RegisterNames → (from count : ℕ) → List ℕ
subscripts_text names from count = codes " " ++ listed_text names (take count (drop from names.subscripts))

-- what an instruction changes
unfoldable pub target_text : RegisterNames → Field → ℕ → List ℕ
target_text names is.Target to = register_text names to ++ codes " = "
target_text names is.Scalar to = slot_text names.slots (Scalar to) ++ codes " = "
target_text names is.Array to = slot_text names.slots (Array to) ++ codes " = "
target_text names other to = []

-- what a field of an instruction says, behind a space
unfoldable pub field_text : RegisterNames → Instruction → Field → ℕ → List ℕ
field_text names i is.Register x = codes " " ++ register_text names x
field_text names i (is.Table size) x = table_text names x size
field_text names i is.Scalar x = codes " " ++ slot_text names.slots (Scalar x)
field_text names i is.Array x = codes " " ++ slot_text names.slots (Array x)
field_text names i is.Subscripts x = subscripts_text names x i.number
field_text names i is.Shift x = codes " " ++ decimal x
field_text names i is.Statement x = codes " " ++ decimal x
field_text names i is.Number x = number_text i.operation x
field_text names i is.Target x = []
field_text names i is.Spare x = []
field_text names i is.Unused x = []

unfoldable pub instruction_text : RegisterNames → Instruction → List ℕ
instruction_text names i =
    target_text names (format i.operation).to i.to ++ operation_word i.operation
    ++ field_text names i (format i.operation).left i.left
    ++ field_text names i (format i.operation).right i.right
    ++ field_text names i (format i.operation).number i.number
