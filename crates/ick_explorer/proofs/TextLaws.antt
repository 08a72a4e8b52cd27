-- Laws of texts of choices.
use Rattle.std.proofs.Common.{◌≡◌, ◌≢◌, ◌==◌, ◌||◌, ◌&&◌, get_or, ℕ, suc, Bool, true, false}
use Rattle.std.proofs.Common.{List, [], ◌∷◌, ◌<◌, map, length, refl, ap, sym, ◌∙◌, arith}
use Rattle.std.specs.Prelude.{Result, Ok, Err, IfOk, OnErr}
use Rattle.std.specs.List.{list_all}
use Rattle.std.proofs.lemmas.Bool.Decides.{nat_tests}
use Rattle.ick_explorer.specs.ChoiceTexts.{digit_of, plain_text, is_digit, IsPlain}

and_parts : (a b : Bool) → a && b ≡ true → (a ≡ true) × (b ≡ true)
and_parts true true e = (refl, refl)
and_parts true false e = cc
and_parts false b e = cc

pub digit_one : (a b : Bool) → digit_of a ≡ digit_of b → a ≡ b
digit_one true true e = refl
digit_one false false e = refl
digit_one true false e = let x : 49 ≡ 48 = e in absurd (omega (arith, x))
digit_one false true e = let x : 48 ≡ 49 = e in absurd (omega (arith, x))

digits_one : (c d : List Bool) → map digit_of c ≡ map digit_of d → c ≡ d
digits_one [] [] e = refl
digits_one [] (b ∷ d) e = cc
digits_one (a ∷ c) [] e = cc
digits_one (a ∷ c) (b ∷ d) e =
    let h : digit_of a ≡ digit_of b = cc in
    let t : map digit_of c ≡ map digit_of d = cc in
    ap (λ x. x ∷ c) (digit_one a b h) ∙ ap (λ x. b ∷ x) (digits_one c d t)

not_dash : (a : Bool) (c : List Bool) → map digit_of (a ∷ c) ≡ 45 ∷ [] → ⊥
not_dash true c e = let x : 49 ≡ 45 = ap (λ l. get_or l 0 0) e in absurd (omega (arith, x))
not_dash false c e = let x : 48 ≡ 45 = ap (λ l. get_or l 0 0) e in absurd (omega (arith, x))

pub plain_one : (c d : List Bool) → plain_text c ≡ plain_text d → c ≡ d
plain_one [] [] e = refl
plain_one [] (b ∷ d) e = absurd (not_dash b d (sym e))
plain_one (a ∷ c) [] e = absurd (not_dash a c e)
plain_one (a ∷ c) (b ∷ d) e = digits_one (a ∷ c) (b ∷ d) e

digit_case : (b : ℕ) (t u : Bool) → (b == 48) ≡ t → (b == 49) ≡ u → t || u ≡ true → digit_of u ≡ b
digit_case b t true e f h = let x : b ≡ 49 = grind (arith, nat_tests) in sym x
digit_case b true false e f h = let x : b ≡ 48 = grind (arith, nat_tests) in sym x
digit_case b false false e f h = cc

pub digits_back : (text : List ℕ) → list_all is_digit text ≡ true →
    map digit_of (map (λ b. b == 49) text) ≡ text
digits_back [] h = refl
digits_back (b ∷ text) h =
    let both = and_parts (is_digit b) (list_all is_digit text) h in
    ap (λ x. x ∷ map digit_of (map (λ b. b == 49) text)) (digit_case b (b == 48) (b == 49) refl refl both.0)
    ∙ ap (λ x. b ∷ x) (digits_back text both.1)

-- what the digits of a text read as
pub reads_digits : (text : List ℕ) (c : List Bool) → 0 < length text → list_all is_digit text ≡ true →
    c ≡ map (λ b. b == 49) text → IsPlain text c
reads_digits [] c n h e = absurd (omega arith)
reads_digits (b ∷ text) c n h e = sym (ap plain_text e ∙ digits_back (b ∷ text) h)

digits_all : (c : List Bool) → list_all is_digit (map digit_of c) ≡ true
digits_all [] = refl
digits_all (true ∷ c) = digits_all c
digits_all (false ∷ c) = digits_all c

-- a text that isn't `-` and isn't digits reads as nothing
pub reads_nothing : (text : List ℕ) (c : List Bool) → text ≢ 45 ∷ [] → list_all is_digit text ≢ true →
    ¬ IsPlain text c
reads_nothing text [] n h e = n e
reads_nothing text (b ∷ c) n h e = h (ap (list_all is_digit) e ∙ digits_all (b ∷ c))

pub empty_reads : (text : List ℕ) (c : List Bool) → text ≡ [] → ¬ IsPlain text c
empty_reads text [] n e = let x : 0 ≡ 1 = ap length (sym n ∙ e) in omega (arith, x)
empty_reads text (b ∷ c) n e = let x : 0 ≡ suc (length (map digit_of c)) = ap length (sym n ∙ e) in
    omega (arith, x)

pub if_ok : {T E : Type 0} (r : Result T E) {P Q : T → Type 0} → ((x : T) → P x → Q x) → IfOk r P → IfOk r Q
if_ok (Ok x) f p = f x p
if_ok (Err e) f p = tt

pub length_read : (text : List ℕ) → length (map (λ b. b == 49) text) ≡ length text
length_read [] = refl
length_read (b ∷ text) = omega (arith, length_read text)

pub on_error : {T E : Type 0} (r : Result T E) {P : Type 0} → P → OnErr r P
on_error (Ok x) p = tt
on_error (Err e) p = p
