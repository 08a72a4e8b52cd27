-- The lines of the places of a statement's parts. Places are counted from the first byte of the statement.
use Rattle.std.specs.Prelude.{ℕ, ◌+◌, ◌-◌, Bool, true, false, if◌then◌else◌, List, [], ◌∷◌, ◌++◌, Option, Some, None}
use Rattle.std.specs.Prelude.{codes, decimal, max}
use Rattle.ick_places.specs.declared.head.Head.{Head}
use Rattle.ick_places.specs.declared.head.Span.{Span}
use Rattle.ick_places.specs.declared.mark.Mark.{Mark}
use Rattle.ick_places.specs.declared.mark.Part.{Part}
use Rattle.ick_places.specs.declared.mark.Part.TheVariants.{Variable, Mesh, Element, Unary, Binary, Listed, Gerund}
use Rattle.ick_places.specs.declared.mark.Part.TheVariants.{Action}
use Rattle.ick_places.specs.declared.mark.Part.TheVariants.{Name, Label, Operator, Group}
use Rattle.ick_places.specs.Heads.{span}
use Rattle.ick_places.specs.Marks.{is_operation}
use Rattle.ick_source.specs.declared.stop.Stop.{Stop}
use Rattle.ick_source.specs.Wanted.{wanted_text}
use Rattle.ick_stages.specs.Steps.{asked_text}
use Rattle.ick_stages.specs.declared.placed.Parts.{Parts}

-- `11-16`: from a byte up to before another
unfoldable pub bytes_text : (start from to : ℕ) → List ℕ
bytes_text start from to = decimal (from - start) ++ codes "-" ++ decimal (to - start)

-- `  head 0-2 identifier`
unfoldable pub head_line : (start : ℕ) → Span → (word : List ℕ) → List ℕ
head_line start s word = codes "  head " ++ bytes_text start s.from s.to ++ word

abbrev pub head_line_of : (start : ℕ) → Option Span → (word : List ℕ) → List ℕ
head_line_of start None word = []
head_line_of start (Some s) word = head_line start s word

-- the parts of a head that are there, and the body behind it, up to the end of the statement
unfoldable pub head_text : (start : ℕ) → Head → (to : ℕ) → List ℕ
head_text start head to =
    head_line_of start head.label (codes " label\n") ++ head_line start head.identifier (codes " identifier\n")
    ++ head_line_of start head.negation (codes " not\n") ++ head_line_of start head.chance (codes " chance\n")
    ++ head_line start (span head.begin (max head.begin to)) (codes " body\n")

abbrev pub head_text_of : (start : ℕ) → Option Head → (to : ℕ) → List ℕ
head_text_of start None to = []
head_text_of start (Some head) to = head_text start head to

abbrev pub part_word : Part → List ℕ
part_word Variable = codes "variable"
part_word Mesh = codes "mesh"
part_word Element = codes "element"
part_word Unary = codes "unary"
part_word Binary = codes "binary"
part_word Listed = codes "listed"
part_word Gerund = codes "gerund"
part_word Action = codes "action"
part_word Name = codes "name"
part_word Label = codes "label"
part_word Operator = codes "operator"
part_word Group = codes "group"

abbrev pub kind_text : Part → List ℕ
kind_text part = codes " " ++ part_word part

-- `  part 3 11-16 binary`, the part of which operation 3 is made; its kind is shown if all places are
unfoldable pub part_line : (number start : ℕ) → Mark → (all : Bool) → List ℕ
part_line number start m all =
    codes "  part " ++ decimal number ++ codes " " ++ bytes_text start m.from m.to ++ asked_text all (kind_text m.part)
    ++ codes "\n"

-- `  mark 13-14 operator`
unfoldable pub mark_line : (start : ℕ) → Mark → List ℕ
mark_line start m = codes "  mark " ++ bytes_text start m.from m.to ++ kind_text m.part ++ codes "\n"

-- the line of a part behind so many operations
abbrev pub part_text : (number start : ℕ) → Mark → (all : Bool) → List ℕ
part_text number start m all =
    if is_operation m.part then part_line (number + 1) start m all else asked_text all (mark_line start m)

abbrev pub count_of : Mark → ℕ
count_of m = if is_operation m.part then 1 else 0

-- the lines of parts behind so many operations
abbrev pub parts_from : (number start : ℕ) → List Mark → (all : Bool) → List ℕ
parts_from number start [] all = []
parts_from number start (m ∷ ms) all =
    part_text number start m all ++ parts_from (number + count_of m) start ms all

-- the byte that has the character at which reading stops
abbrev pub stopped_byte : Stop → ℕ
stopped_byte stop = if stop.within then stop.at - 1 else stop.at

-- `  stops 11 a number`
unfoldable pub stop_line : (start : ℕ) → Stop → List ℕ
stop_line start stop =
    codes "  stops " ++ decimal (stopped_byte stop - start) ++ codes " " ++ wanted_text stop.wanted ++ codes "\n"

abbrev pub stop_line_of : (start : ℕ) → Option Stop → List ℕ
stop_line_of start None = []
stop_line_of start (Some stop) = stop_line start stop

-- all places: the head, the parts of the body, and where reading stops; or the parts of which operations are made
abbrev pub parts_text : Parts → (all : Bool) → List ℕ
parts_text parts true =
    let p = parts.places in
    head_text_of p.from p.head p.to ++ parts_from 0 p.from p.marks.items true ++ stop_line_of p.from parts.stop
parts_text parts false = parts_from 0 parts.places.from parts.places.marks.items false

abbrev pub parts_text_of : Option Parts → (all : Bool) → List ℕ
parts_text_of None all = []
parts_text_of (Some parts) all = parts_text parts all
