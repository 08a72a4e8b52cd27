-- What a body wants where its reading stops.
use Rattle.std.specs.Prelude.{ℕ, Bool, true, false, if◌then◌else◌, List, codes, bytes_eq}
use Rattle.ick_source.specs.declared.lead.Delimiter.{Delimiter}
use Rattle.ick_source.specs.declared.lead.Delimiter.TheVariants as delimiters
use Rattle.ick_source.specs.declared.wanted.Wanted.{Wanted}
use Rattle.ick_source.specs.declared.wanted.Wanted.TheVariants.{Body, Number, Operand, Name, Place, Item, Gerund, Spark}
use Rattle.ick_source.specs.declared.wanted.Wanted.TheVariants.{Ears, Opening, Closing, Arrow, Sub, Next, From, Up, In}
use Rattle.ick_source.specs.declared.wanted.Wanted.TheVariants.{Out, Shallower, End}

-- what is wanted where a word is missing
abbrev pub wanted_word : List ℕ → Wanted
wanted_word w =
    if bytes_eq w (codes "(") then Opening
    else if bytes_eq w (codes ")") then Closing
    else if bytes_eq w (codes "<-") then Arrow
    else if bytes_eq w (codes "SUB") then Sub
    else if bytes_eq w (codes "NEXT") then Next
    else if bytes_eq w (codes "FROM") then From
    else if bytes_eq w (codes "UP") then Up
    else if bytes_eq w (codes "IN") then In
    else if bytes_eq w (codes "OUT") then Out
    else Body

-- what is wanted where a group goes on
abbrev pub closing_mark : Delimiter → Wanted
closing_mark delimiters.Spark = Spark
closing_mark delimiters.Ears = Ears

-- whether one character tells that it is missing
abbrev pub is_told_by_character : Wanted → Bool
is_told_by_character Operand = true
is_told_by_character Name = true
is_told_by_character Place = true
is_told_by_character Item = true
is_told_by_character Spark = true
is_told_by_character Ears = true
is_told_by_character _ = false

-- what was expected, in words
abbrev pub wanted_text : Wanted → List ℕ
wanted_text Body = codes "a variable, an array, a label or a verb"
wanted_text Number = codes "a number"
wanted_text Operand = codes "an operand: a variable, an element, a mesh or a group"
wanted_text Name = codes "a variable or an array"
wanted_text Place = codes "a variable, an element or an array"
wanted_text Item = codes "a variable, an element, an array or a mesh"
wanted_text Gerund = codes "a gerund"
wanted_text Spark = codes "an operator or the spark that closes the group"
wanted_text Ears = codes "an operator or the rabbit ears that close the group"
wanted_text Opening = codes "a left parenthesis"
wanted_text Closing = codes "a right parenthesis"
wanted_text Arrow = codes "<-"
wanted_text Sub = codes "SUB"
wanted_text Next = codes "NEXT"
wanted_text From = codes "FROM"
wanted_text Up = codes "UP"
wanted_text In = codes "IN"
wanted_text Out = codes "OUT"
wanted_text Shallower = codes "at most 256 operands and groups within one another"
wanted_text End = codes "the end of the statement"
