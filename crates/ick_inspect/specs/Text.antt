-- What is added to a text that remembers whether memory was refused.
use Rattle.std.specs.Prelude.{ℕ, ◌≡◌, ◌≤◌, ◌<◌, ◌+◌, true, false, List, ◌++◌, length, decimal, vec_len, vec_capacity}
use Rattle.std.specs.List.{flat_map}
use Rattle.ick_inspect.specs.declared.text.Text.{Text}

-- a piece was appended, unless memory was refused. It was refused only before, or if there was no room for the piece
pub record Adds (old new : Text) (piece : List ℕ) : Type 0 where
  pub sound : new.refused ≡ false → old.refused ≡ false
  pub bytes : new.refused ≡ false → new.bytes.items ≡ old.bytes.items ++ piece
  pub full : new.refused ≡ true → old.refused ≡ false
      → vec_capacity old.bytes < vec_len old.bytes + length piece
  pub capacity : vec_capacity old.bytes ≤ vec_capacity new.bytes

-- numbers, each behind the same bytes
unfoldable pub numbers_text : List ℕ → List ℕ → List ℕ
numbers_text before numbers = flat_map (λ n. before ++ decimal n) numbers
