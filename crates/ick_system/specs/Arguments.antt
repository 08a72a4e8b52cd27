-- The arguments that the system hands over.
use Rattle.std.specs.Prelude.{List, drop, map, string_bytes}
use Rattle.std.specs.declared.string.String.{String}
use Rattle.clap.specs.Walk.{Text}

-- the texts of the arguments after the program's own name
abbrev pub after_name : {Z : Type 0} → List (String Z) → List Text
after_name arguments = map string_bytes (drop 1 arguments)
