-- The bytes that have characters, by how many characters are left.
use Rattle.std.proofs.Common.{◌≡◌, ◌≢◌, ℕ, suc, zero, ◌+◌, ◌-◌, ◌<◌, ◌≤◌, Bool, not, true, false, nat_le, nat_eq, List, [], ◌∷◌}
use Rattle.std.proofs.Common.{length, length-append, drop, get_or, cond, min, refl, sym, ap, ◌∙◌, arith, add-one}
use Rattle.std.proofs.lemmas.Bool.Decides.{nat_tests}
use Rattle.std.proofs.lemmas.List.{drop_min}
use Rattle.ick_places.specs.Marks.{first_byte, last_byte}
use Rattle.ick_source.specs.declared.position.Position.{Position}
use Rattle.ick_source.specs.Position.{characters, characters_of, left_at}
use Rattle.ick_source.proofs.PositionLemmas.{characters-drop}

abbrev pub Many : List ℕ → ℕ → ℕ
Many text n = length (characters (drop n text))

abbrev pub taken : List ℕ → ℕ → ℕ
taken text n = length (characters_of (get_or text n 0))

pub many-step : (text : List ℕ) (n : ℕ) → n < length text → Many text n ≡ taken text n + Many text (suc n)
many-step text n low =
    ap length (characters-drop text n low)
    ∙ length-append (characters_of (get_or text n 0)) (characters (drop (n + 1) text))
    ∙ rw (add-one) refl

pub taken-one : (b : ℕ) → b ≢ 33 → length (characters_of b) ≡ 1
taken-one b e = let t : nat_eq b 33 ≡ false = grind (arith, nat_tests, e) in rw t refl

pub taken-two : (b : ℕ) → b ≡ 33 → length (characters_of b) ≡ 2
taken-two b e = let t : nat_eq b 33 ≡ true = grind (arith, nat_tests, e) in rw t refl

pub taken-some : (b : ℕ) → 1 ≤ length (characters_of b)
taken-some b = elim (nat_eq b 33) as (λ t. 1 ≤ length (cond t (39 ∷ 46 ∷ []) (b ∷ []))) [
  | true ↦ omega arith
  | false ↦ omega arith
]

many-within : (text : List ℕ) (n : ℕ) → Many text n ≤ length (characters text)
unfolding characters
many-within text zero = omega arith
many-within [] (suc n) = omega arith
many-within (b ∷ bs) (suc n) =
    omega (arith, many-within bs n, length-append (characters_of b) (characters bs))

pub first-at : (text l : List ℕ) (n : ℕ) → n ≤ length text → (0 < n → length l ≤ Many text n) →
    (n < length text → Many text (suc n) < length l) → first_byte text l ≡ n
unfolding first_byte
first-at [] l n low many fewer = omega (arith, low)
first-at (b ∷ bs) l zero low many fewer =
    let less = fewer (omega arith) in
    let t : nat_le (length l) (length (characters bs)) ≡ false = grind (arith, nat_tests, less) in rw t refl
first-at (b ∷ bs) l (suc n) low many fewer =
    let some = many (omega arith) in
    let most = many-within bs n in
    let t : nat_le (length l) (length (characters bs)) ≡ true = grind (arith, nat_tests, some, most) in
    rw t (ap suc (first-at bs l n (omega (arith, low)) (λ p. some) (λ p. fewer (omega (arith, p)))))

pub last-at : (text l : List ℕ) (n : ℕ) → n ≤ length text → Many text n ≤ length l →
    ((k : ℕ) → suc k ≡ n → length l < Many text k) → last_byte text l ≡ n
unfolding last_byte
last-at [] l n low few more = omega (arith, low)
last-at (b ∷ bs) l zero low few more =
    let t : nat_le (length (characters (b ∷ bs))) (length l) ≡ true = grind (arith, nat_tests, few) in rw t refl
last-at (b ∷ bs) l (suc n) low few more =
    let less = more n refl in
    let most = many-within (b ∷ bs) n in
    let t : nat_le (length (characters (b ∷ bs))) (length l) ≡ false = grind (arith, nat_tests, less, most) in
    rw t (ap suc (last-at bs l n (omega (arith, low)) few
    (λ k e. more (suc k) (ap suc e))))

pub left-plain : (text : List ℕ) (p : Position) (n : ℕ) → p.between ≡ false → n ≡ min p.at (length text) →
    length (left_at text p) ≡ Many text n
unfolding left_at
left-plain text p n e f = rw (e, f, drop_min p.at text) refl

pub left-between : (text : List ℕ) (p : Position) (n : ℕ) → p.between ≡ true → n ≡ min p.at (length text) →
    length (left_at text p) ≡ suc (Many text n)
unfolding left_at
left-between text p n e f = rw (e, f, drop_min p.at text) refl

pub first-plain : (text l : List ℕ) (n : ℕ) → n ≤ length text → length l ≡ Many text n → first_byte text l ≡ n
first-plain text l n low e =
    first-at text l n low (λ p. omega (arith, e))
    (λ p. omega (arith, e, many-step text n p, taken-some (get_or text n 0)))

pub first-between : (text l : List ℕ) (n k : ℕ) → n ≤ length text → length l ≡ suc (Many text n) → k ≡ n - 1 →
    first_byte text l ≡ k
first-between text l zero k low e is =
    let none : k ≡ 0 = omega (arith, is) in
    rw none (first-at text l 0 (omega arith) (λ p. absurd (omega (arith, p)))
    (λ p. omega (arith, e, many-step text 0 p)))
first-between text l (suc n) k low e is =
    let step = many-step text n (omega (arith, low)) in
    let here : k ≡ n = omega (arith, is) in
    rw here (first-at text l n (omega (arith, low)) (λ p. omega (arith, e, step, taken-some (get_or text n 0)))
    (λ p. omega (arith, e)))

pub last-plain : (text l : List ℕ) (n : ℕ) → n ≤ length text → length l ≡ Many text n → last_byte text l ≡ n
last-plain text l n low e =
    last-at text l n low (omega (arith, e))
    (λ k same. omega (arith, e, same, many-step text k (omega (arith, low, same)), taken-some (get_or text k 0), ap (Many text) same))

-- the byte before is a `!`, of which one character is left
pub last-bang : (text l : List ℕ) (n k : ℕ) → n ≤ length text → n ≡ suc k → get_or text k 0 ≡ 33 →
    length l ≡ suc (Many text n) → last_byte text l ≡ n
last-bang text l n k low is b e =
    let step = many-step text k (omega (arith, low, is)) in
    let same = ap (Many text) is in
    last-at text l n low (omega (arith, e))
    (λ j next. let here : j ≡ k = omega (arith, next, is) in
    rw here (omega (arith, e, step, same, taken-two (get_or text k 0) b)))

-- the byte before is one character, which is left
pub last-other : (text l : List ℕ) (n k : ℕ) → n ≤ length text → n ≡ suc k → get_or text k 0 ≢ 33 →
    length l ≡ suc (Many text n) → last_byte text l ≡ k
last-other text l n k low is b e =
    let step = many-step text k (omega (arith, low, is)) in
    let same = ap (Many text) is in
    last-plain text l k (omega (arith, low, is)) (omega (arith, e, step, same, taken-one (get_or text k 0) b))

pub last-none : (text l : List ℕ) → length l ≡ suc (Many text 0) → last_byte text l ≡ 0
last-none text l e = last-at text l 0 (omega arith) (omega (arith, e)) (λ k same. absurd (omega (arith, same)))

pub between-is : (b : Bool) → not b ≡ false → b ≡ true
between-is true e = refl
between-is false e = sym e

pub plain-is : (b : Bool) → not b ≡ true → b ≡ false
plain-is true e = sym e
plain-is false e = refl
