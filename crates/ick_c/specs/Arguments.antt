-- The arguments that bytes hold.
use Rattle.std.specs.Prelude.{◌≡◌, ◌++◌, ◌∷◌, ℕ, List, [], All, IsUtf8}
use Rattle.std.specs.Str.Iter.{LacksByte}
use Rattle.clap.specs.Words.{Text}

-- the texts, with a byte 0 behind each
unfoldable pub ended : List Text → List ℕ
ended [] = []
ended (text ∷ texts) = text ++ (0 ∷ ended texts)

-- an argument: a text in UTF-8 without a byte 0
pub record IsArgument (text : Text) : Type 0 where
  pub utf8 : IsUtf8 text
  pub no_zero : LacksByte 0 text

-- the bytes are these arguments, with a byte 0 behind each
pub record Holds (bytes : List ℕ) (arguments : List Text) : Type 0 where
  pub whole : ended arguments ≡ bytes
  pub each : All IsArgument arguments
