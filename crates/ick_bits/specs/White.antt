-- White bytes.
use Rattle.std.specs.Prelude.{ℕ, Bool, ◌&&◌, ◌||◌, nat_le, ◌==◌}

-- 9 to 13, or 32
abbrev pub is_white_byte : ℕ → Bool
is_white_byte b = (nat_le 9 b && nat_le b 13) || b == 32
