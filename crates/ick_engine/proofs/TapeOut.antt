-- Elements printed one after another.
use Rattle.std.proofs.Common.{◌≡◌, ℕ, ◌+◌, ◌-◌, ◌%◌, ◌<◌, List, [], ◌∷◌, ◌++◌, length, take, get_or, refl, ap, arith}
use Rattle.std.proofs.lemmas.{Grind.common_steps, List.append_assoc}
use Rattle.ick_bits.specs.Tape.{tape_position, reversed_byte}
use Rattle.ick_code.specs.meaning.Tape.{tape_bytes, tape_after}

tape_bytes-append : (last : ℕ) (vs : List ℕ) (v : ℕ) →
    tape_bytes last (vs ++ v ∷ [])
    ≡ tape_bytes last vs ++ reversed_byte (tape_position (tape_after last vs) v) ∷ []
tape_bytes-append last [] v = refl
tape_bytes-append last (x ∷ vs) v =
    ap (λ l. reversed_byte (tape_position last x) ∷ l) (tape_bytes-append (tape_position last x) vs v)

tape_after-append : (last : ℕ) (vs : List ℕ) (v : ℕ) →
    tape_after last (vs ++ v ∷ []) ≡ tape_position (tape_after last vs) v
tape_after-append last [] v = refl
tape_after-append last (x ∷ vs) v = tape_after-append (tape_position last x) vs v

-- a position rests on the low bits of a number alone
low_position : (last v : ℕ) → tape_position last (v % 65536) ≡ tape_position last v
low_position last v = let low : v % 65536 % 256 ≡ v % 256 = omega arith in ap (λ n. (last + (256 - n)) % 256) low

next_taken : (vs : List ℕ) (at v : ℕ) → at < length vs → v ≡ get_or vs at v → take (at + 1) vs ≡ take at vs ++ v ∷ []
next_taken vs at v within read = grind (arith, common_steps)

-- one more element
pub next_position : (vs : List ℕ) (at v last position next : ℕ) → at < length vs → v ≡ get_or vs at v →
    position ≡ tape_after last (take at vs) → next ≡ tape_position position (v % 65536) →
    next ≡ tape_after last (take (at + 1) vs)
next_position vs at v last position next within read here moved = grind (arith, common_steps, low_position, next_taken, tape_after-append)

pub next_bytes : (vs : List ℕ) (at v last position next byte : ℕ) (output output' before : List ℕ) →
    at < length vs → v ≡ get_or vs at v → position ≡ tape_after last (take at vs) →
    next ≡ tape_position position (v % 65536) → byte ≡ reversed_byte next →
    output' ≡ output ++ byte ∷ [] → output ≡ before ++ tape_bytes last (take at vs) →
    output' ≡ before ++ tape_bytes last (take (at + 1) vs)
next_bytes vs at v last position next byte output output' before within read here moved is pushed done =
    grind (arith, common_steps, append_assoc, low_position, next_taken, tape_bytes-append)
