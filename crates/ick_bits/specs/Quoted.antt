-- A text in double quotes.
use Rattle.std.specs.Prelude.{ℕ, ◌/◌, ◌%◌, Bool, ◌&&◌, nat_le, ◌==◌, List, [], ◌∷◌, ◌++◌}
use Rattle.std.specs.Prelude.{if◌then◌else◌, false, codes}
use Rattle.std.specs.List.{flat_map}
use Rattle.std.specs.Fmt.{digit_glyph}

-- the lower-case hexadecimal digit of a number below 16
abbrev pub hex_glyph : ℕ → ℕ
hex_glyph d = digit_glyph false d

-- printed as it is
abbrev pub is_plain : ℕ → Bool
is_plain b = nat_le 32 b && nat_le b 126

-- what stands for one byte: 10 is the end of a line, 92 `\` and 34 `"`
unfoldable pub escaped : ℕ → List ℕ
escaped b =
    if b == 10 then codes "\\n"
    else if b == 92 then codes "\\\\"
    else if b == 34 then codes "\\\""
    else if is_plain b then b ∷ []
    else codes "\\x" ++ hex_glyph (b / 16) ∷ hex_glyph (b % 16) ∷ []

unfoldable pub quoted : List ℕ → List ℕ
quoted text = codes "\"" ++ flat_map escaped text ++ codes "\""
