-- The lines of the faults for which a source is refused.
use Rattle.std.specs.Prelude.{ℕ, ◌-◌, ◌==◌, ◌&&◌, ◌||◌, nat_lt, Bool, true, false, if◌then◌else◌, List, [], ◌∷◌, ◌++◌}
use Rattle.std.specs.Prelude.{Option, Some, None, codes, decimal, map}
use Rattle.std.specs.List.{filter, range_with_len}
use Rattle.ick_bits.specs.declared.faults.FaultKind.{FaultKind}
use Rattle.ick_bits.specs.declared.faults.FaultKind.TheVariants.{MeshTooLarge, NameRange, LabelRange, SameLabel}
use Rattle.ick_bits.specs.declared.faults.FaultKind.TheVariants.{NoNextLabel, NoAbstainLabel}
use Rattle.ick_bits.specs.Faults.{fault_number}
use Rattle.ick_places.specs.declared.head.Head.{Head}
use Rattle.ick_places.specs.declared.head.Span.{Span}
use Rattle.ick_places.specs.declared.mark.Mark.{Mark}
use Rattle.ick_places.specs.declared.mark.Part.{Part}
use Rattle.ick_places.specs.declared.mark.Part.TheVariants.{Variable, Mesh, Listed, Action, Name, Label}
use Rattle.ick_places.specs.declared.statement.Places.{Places}
use Rattle.ick_places.specs.Heads.{span}
use Rattle.ick_source.specs.declared.all_faults.FaultAt.{FaultAt}
use Rattle.ick_source.specs.Bytes.{byte}
use Rattle.ick_source.specs.Token.{is_digit, value_of_digits}
use Rattle.ick_stages.specs.Parts.{bytes_text}

-- the digits among so many bytes
abbrev pub digits_in : (source : List ℕ) → (from count : ℕ) → List ℕ
digits_in source from count = filter is_digit (map (byte source) (range_with_len from count))

-- the number that the digits of a part write
unfoldable pub number_of : (source : List ℕ) → Span → ℕ
number_of source s = value_of_digits (digits_in source s.from (s.to - s.from))

abbrev pub is_large : ℕ → Bool
is_large n = nat_lt 65535 n

abbrev pub is_outside : ℕ → Bool
is_outside n = n == 0 || is_large n

abbrev pub span_of : Mark → Span
span_of m = span m.from m.to

-- a name, with a number and nothing more
abbrev pub is_name : (source : List ℕ) → Mark → Part → Bool
is_name source m Variable = true
is_name source m Listed = true
is_name source m Name = true
is_name source m Action = byte source m.from == 44
is_name source m _ = false

abbrev pub is_mesh : Part → Bool
is_mesh Mesh = true
is_mesh _ = false

abbrev pub is_label : Part → Bool
is_label Label = true
is_label _ = false

-- a part of a body has a fault of this kind, by its number
abbrev pub is_faulty : (source : List ℕ) → FaultKind → Mark → Bool
is_faulty source MeshTooLarge m = is_mesh m.part && is_large (number_of source (span_of m))
is_faulty source NameRange m = is_name source m m.part && is_outside (number_of source (span_of m))
is_faulty source LabelRange m = is_label m.part && is_outside (number_of source (span_of m))
is_faulty source NoNextLabel m = is_label m.part
is_faulty source NoAbstainLabel m = is_label m.part
is_faulty source _ m = false

-- the first such part
abbrev pub faulty_in : (source : List ℕ) → FaultKind → List Mark → Option Span
faulty_in source kind [] = None
faulty_in source kind (m ∷ ms) = if is_faulty source kind m then Some (span_of m) else faulty_in source kind ms

-- a statement's own label has a fault of this kind, if any label has
abbrev pub is_label_faulty : (source : List ℕ) → FaultKind → Span → Bool
is_label_faulty source SameLabel label = true
is_label_faulty source LabelRange label = is_outside (number_of source label)
is_label_faulty source _ label = false

abbrev pub label_of : (source : List ℕ) → FaultKind → Option Span → Option Span
label_of source kind None = None
label_of source kind (Some label) = if is_label_faulty source kind label then Some label else None

abbrev pub own_label : Option Head → Option Span
own_label None = None
own_label (Some head) = head.label

-- the first that is there
abbrev pub either_or : Option Span → Option Span → Span → Span
either_or (Some a) b whole = a
either_or None (Some b) whole = b
either_or None None whole = whole

-- what has a fault of a statement: its own label, or the first such part of its body, or else the whole
abbrev pub faulty_part : (source : List ℕ) → FaultKind → Places → Span
faulty_part source kind p =
    either_or (label_of source kind (own_label p.head)) (faulty_in source kind p.marks.items) (span p.from p.to)

unfoldable pub fault_numbers : FaultAt → List ℕ
fault_numbers fault = decimal (fault_number fault.kind) ++ codes " " ++ decimal fault.number

-- `refused 129 3 11-14`: the number of the fault, that of the statement, and the part, from the statement's first byte
unfoldable pub fault_line : (source : List ℕ) → FaultAt → Places → List ℕ
fault_line source fault p =
    let part = faulty_part source fault.kind p in
    codes "refused " ++ fault_numbers fault ++ codes " " ++ bytes_text p.from part.from part.to ++ codes "\n"

-- the last line: `DONE`, or `REFUSED 129 3` with the first fault
abbrev pub last_line : List FaultAt → List ℕ
last_line [] = codes "DONE\n"
last_line (fault ∷ faults) = codes "REFUSED " ++ fault_numbers fault ++ codes "\n"
