-- The outcomes under a limit have one text.
use Rattle.std.proofs.Common.{◌≡◌, ◌∙◌, ◌++◌, ◌<◌, ◌≤◌, ◌+◌, ◌*◌, ◌-◌, ◌^◌, inl, inr, ℕ, zero, suc, Bool, true}
use Rattle.std.proofs.Common.{false, List, [], ◌∷◌, ◌/◌, Some, ap, ap₂, refl, subst, sym, arith, length}
use Rattle.std.specs.Prelude.{codes}
use Rattle.std.specs.List.{All}
use Rattle.std.proofs.Math.Nat.{mul-div_cancel, mul-pos, pow-succ', pow-zero}
use Rattle.std.proofs.lemmas.Bool.{cases_lt}
use Rattle.std.proofs.lemmas.Nat.{pow-add}
use Rattle.std.proofs.lemmas.List.{length-append, length-map, map-append, same_from_push}
use Rattle.std.proofs.lemmas.List.Elements.{All-head, All-pop, All-tail}
use Rattle.ick_bits.specs.Quoted.{quoted}
use Rattle.ick_code.specs.meaning.State.{State}
use Rattle.ick_outcomes.specs.Programs.{Program}
use Rattle.ick_explorer.specs.ChoiceTexts.{choices_text}
use Rattle.ick_numbers.specs.Naturals.{digit, EndsInZero}
use Rattle.ick_numbers.specs.Values.{natural}
use Rattle.ick_outcomes.specs.Fractions.{top_of}
use Rattle.ick_outcomes.specs.Lines.{AreLines, IsLine, IsTotal, no_line, one_more}
use Rattle.ick_outcomes.specs.Seen.{row_of, rows_of}
use Rattle.ick_outcomes.specs.Summaries.{IsSummary, Row, count_of}
use Rattle.ick_outcomes.specs.Texts.{IsNumberText, IsTen, IsText, IsWeightText, after_point, backwards, tens_value}
use Rattle.ick_outcomes.specs.Texts.{cut_after_fifteen}
use Rattle.ick_outcomes.specs.Weights.{amount, room}
use Rattle.ick_outcomes.specs.declared.fraction.Fraction.{Fraction}
use Rattle.ick_outcomes.specs.declared.outcome.Outcome.{Outcome}
use Rattle.ick_outcomes.proofs.Unique.{summary-unique}
use Rattle.ick_outcomes_cli.specs.Laws.{AreKept}
use Rattle.ick_outcomes_cli.specs.Tool.{IsTextOf}

-- the most significant digit isn't 0, unless it is the only one
abbrev IsPlain : List ℕ → Type 0
IsPlain ds = 1 < length ds → digit ds (length ds - 1) ≡ 0 → ⊥

last_digit : (d x : ℕ) (ds : List ℕ) → digit (d ∷ x ∷ ds) (length (d ∷ x ∷ ds) - 1)
    ≡ digit (x ∷ ds) (length (x ∷ ds) - 1)
last_digit d x ds =
    let e : length (d ∷ x ∷ ds) - 1 ≡ suc (length (x ∷ ds) - 1) = omega arith in
    ap (λ k. digit (d ∷ x ∷ ds) k) e

plain_rest : (d x : ℕ) (ds : List ℕ) → IsPlain (d ∷ x ∷ ds) → IsPlain (x ∷ ds)
plain_rest d x ds plain = λ more none. plain (omega arith) (last_digit d x ds ∙ none)

-- digits whose most significant one isn't 0 have a value that isn't
some_value : (x : ℕ) (ds : List ℕ) → (digit (x ∷ ds) (length (x ∷ ds) - 1) ≡ 0 → ⊥) → 0 < tens_value (x ∷ ds)
some_value zero [] top =
    let e : length {A = ℕ} (0 ∷ []) - 1 ≡ 0 = omega arith in absurd (top (ap (λ k. digit (0 ∷ []) k) e))
some_value (suc x) [] top = omega arith
some_value x (y ∷ ds) top =
    let more = some_value y ds (λ none. top (last_digit x y ds ∙ none)) in omega arith

more_value : (d x : ℕ) (ds : List ℕ) → IsPlain (d ∷ x ∷ ds) → 10 ≤ tens_value (d ∷ x ∷ ds)
more_value d x ds plain =
    let some = some_value x ds (λ none. plain (omega arith) (last_digit d x ds ∙ none)) in omega arith

-- plain digits of one value
same_front : (xs ys : List ℕ) → All IsTen xs → All IsTen ys → 0 < length xs → 0 < length ys → IsPlain xs → IsPlain ys
    → tens_value xs ≡ tens_value ys → ys ≡ xs
same_front [] ys small tens some more plain flat e = absurd (omega arith)
same_front (x ∷ xs) [] small tens some more plain flat e = absurd (omega arith)
same_front (x ∷ []) (y ∷ []) small tens some more plain flat e =
    let d : y ≡ x = omega arith in ap (λ z. z ∷ []) d
same_front (x ∷ []) (y ∷ b ∷ ys) small tens some more plain flat e =
    let low : x < 10 = All-head IsTen x [] small in let high = more_value y b ys flat in absurd (omega arith)
same_front (x ∷ a ∷ xs) (y ∷ []) small tens some more plain flat e =
    let low : y < 10 = All-head IsTen y [] tens in let high = more_value x a xs plain in absurd (omega arith)
same_front (x ∷ a ∷ xs) (y ∷ b ∷ ys) small tens some more plain flat e =
    let low : x < 10 = All-head IsTen x (a ∷ xs) small in
    let less : y < 10 = All-head IsTen y (b ∷ ys) tens in
    let d : y ≡ x = omega arith in
    let rest : tens_value (a ∷ xs) ≡ tens_value (b ∷ ys) = omega arith in
    ap₂ (λ z zs. z ∷ zs) d
    (same_front (a ∷ xs) (b ∷ ys) (All-tail IsTen x (a ∷ xs) small) (All-tail IsTen y (b ∷ ys) tens)
    (omega arith) (omega arith) (plain_rest x a xs plain) (plain_rest y b ys flat) rest)

number_same : (n m : ℕ) (text other : List ℕ) → IsNumberText n text → IsNumberText m other → n ≡ m → other ≡ text
number_same n m text other g h e =
    h.written ∙ (ap backwards (same_front g.digits h.digits g.small h.small g.some h.some g.plain h.plain
    (g.same ∙ (e ∙ sym h.same))) ∙ sym g.written)

-- digits behind a point, and in front of it
pub record SameDigits (xs ys front other : List ℕ) : Type 0 where
  pub behind : ys ≡ xs
  pub before : other ≡ front

same_digits : (xs ys front other : List ℕ) → length xs ≡ length ys → All IsTen (xs ++ front) → All IsTen (ys ++ other)
    → 0 < length front → 0 < length other → IsPlain front → IsPlain other
    → tens_value (xs ++ front) ≡ tens_value (ys ++ other) → SameDigits xs ys front other
same_digits [] [] front other long small tens some more plain flat e = record {
  behind = refl;
  before = same_front front other small tens some more plain flat e;
}
same_digits [] (y ∷ ys) front other long small tens some more plain flat e = absurd (omega arith)
same_digits (x ∷ xs) [] front other long small tens some more plain flat e = absurd (omega arith)
same_digits (x ∷ xs) (y ∷ ys) front other long small tens some more plain flat e =
    let low : x < 10 = All-head IsTen x (xs ++ front) small in
    let less : y < 10 = All-head IsTen y (ys ++ other) tens in
    let d : y ≡ x = omega arith in
    let rest : tens_value (xs ++ front) ≡ tens_value (ys ++ other) = omega arith in
    let same = same_digits xs ys front other (omega arith) (All-tail IsTen x (xs ++ front) small)
    (All-tail IsTen y (ys ++ other) tens) some more plain flat rest in
    record { behind = ap₂ (λ z zs. z ∷ zs) d same.behind; before = same.before }

-- the last digit behind the point isn't 0, so a fraction has one number of them
no_zero_end : (ys other : List ℕ) (v : ℕ) → All IsTen (ys ++ other) → (EndsInZero ys → ⊥) → 0 < length ys
    → tens_value (ys ++ other) ≡ 10 * v → ⊥
no_zero_end [] other v small none some e = omega arith
no_zero_end (y ∷ ys) other v small none some e =
    let low : y < 10 = All-head IsTen y (ys ++ other) small in
    none (record { some = omega arith; last = let z : y ≡ 0 = omega arith in z })

power_some : (b k : ℕ) → 0 < b → 0 < b ^ k
power_some b zero some = let e : b ^ 0 ≡ 1 = pow-zero b in omega (arith, e)
power_some b (suc k) some =
    let more : 0 < b * b ^ k = mul-pos some (power_some b k some) in
    subst (λ n. 0 < n) (sym (pow-succ' b k)) more

cancel : (a b n : ℕ) → 0 < n → a * n ≡ b * n → a ≡ b
cancel a b n some e = sym (mul-div_cancel a some) ∙ (ap (λ z. z / n) e ∙ mul-div_cancel b some)

-- a longer one ends in a zero
ends_in_zero : (v w i j : ℕ) → i < j → v * 10 ^ j ≡ w * 10 ^ i → (n : ℕ) × (w ≡ 10 * n)
ends_in_zero v w i j less e =
    let k = j - i - 1 in
    let long : j ≡ i + suc k = omega arith in
    let power : 10 ^ j ≡ 10 ^ i * (10 * 10 ^ k) =
    ap (λ n. 10 ^ n) long ∙ (pow-add 10 i (suc k) ∙ ap (λ n. 10 ^ i * n) (pow-succ' 10 k)) in
    let p = 10 ^ i in
    let q = 10 ^ k in
    let moved : v * (p * (10 * q)) ≡ (10 * (v * q)) * p = grind arith in
    let both : (10 * (v * q)) * p ≡ w * p = sym moved ∙ (ap (λ n. v * n) (sym power) ∙ e) in
    (v * q, sym (cancel (10 * (v * q)) w p (power_some 10 i (omega arith)) both))

-- fractions of one value
across : (v w f g p q x y : ℕ) → 0 < p → 0 < q → v * p ≡ f * x → w * q ≡ g * y → f * q ≡ g * p → v * y ≡ w * x
across v w f g p q x y some more one other same =
    let a : (v * y) * (p * q) ≡ (v * p) * (q * y) = grind arith in
    let b : (f * x) * (q * y) ≡ (f * q) * (x * y) = grind arith in
    let c : (g * p) * (x * y) ≡ (g * y) * (p * x) = grind arith in
    let d : (w * q) * (p * x) ≡ (w * x) * (p * q) = grind arith in
    cancel (v * y) (w * x) (p * q) (mul-pos some more)
    (a ∙ (ap (λ z. z * (q * y)) one
    ∙ (b ∙ (ap (λ z. z * (x * y)) same ∙ (c ∙ (ap (λ z. z * (p * x)) (sym other) ∙ d))))))

-- the texts of fractions of one value
text_same : (f g : Fraction) (text other : List ℕ) → top_of f * 1000000000 ^ g.places ≡ top_of g * 1000000000 ^ f.places
    → IsText f text → IsText g other → other ≡ text
text_same f g text other same h k =
    let x = length h.behind in
    let y = length k.behind in
    let v = tens_value (h.behind ++ h.front) in
    let w = tens_value (k.behind ++ k.front) in
    let value : v * 10 ^ y ≡ w * 10 ^ x =
    across v w (top_of f) (top_of g) (1000000000 ^ f.places) (1000000000 ^ g.places) (10 ^ x) (10 ^ y)
    (power_some 1000000000 f.places (omega arith)) (power_some 1000000000 g.places (omega arith)) h.same k.same same in
    elim (cases_lt x y) [
      | inl less ↦
          let zero_end = ends_in_zero v w x y less value in
          absurd (no_zero_end k.behind k.front zero_end.0 k.small k.shortest (omega arith) zero_end.1)
      | inr most ↦ elim (cases_lt y x) [
        | inl less ↦
            let zero_end = ends_in_zero w v y x less (sym value) in
            absurd (no_zero_end h.behind h.front zero_end.0 h.small h.shortest (omega arith) zero_end.1)
        | inr least ↦
            let long : x ≡ y = omega arith in
            let equal : v ≡ w = cancel v w (10 ^ x) (power_some 10 x (omega arith))
            (ap (λ n. v * 10 ^ n) long ∙ value) in
            let digits = same_digits h.behind k.behind h.front k.front long h.small k.small h.some k.some h.plain
            k.plain equal in
            k.written ∙ (ap₂ (λ a b. backwards a ++ after_point b) digits.before digits.behind ∙ sym h.written)
      ]
    ]

weight_same : (exact : Bool) (f g : Fraction) (text other : List ℕ)
    → top_of f * 1000000000 ^ g.places ≡ top_of g * 1000000000 ^ f.places
    → IsWeightText exact f text → IsWeightText exact g other → other ≡ text
weight_same true f g text other same h k = text_same f g text other same h k
weight_same false f g text other same h k =
    k.same ∙ (ap cut_after_fifteen (text_same f g h.exact k.exact same h.is_exact k.is_exact) ∙ sym h.same)

-- fractions of one weight
kept_same : (f g i j n : ℕ) → i ≤ n → j ≤ n → f * 1000000000 ^ (n - i) ≡ g * 1000000000 ^ (n - j)
    → f * 1000000000 ^ j ≡ g * 1000000000 ^ i
kept_same f g i j n low less e =
    let a = 1000000000 ^ (n - i) in
    let b = 1000000000 ^ (n - j) in
    let p = 1000000000 ^ i in
    let q = 1000000000 ^ j in
    let one : a * p ≡ 1000000000 ^ n =
    sym (pow-add 1000000000 (n - i) i) ∙ (let whole : n - i + i ≡ n = omega arith in ap (λ k. 1000000000 ^ k) whole) in
    let other : b * q ≡ 1000000000 ^ n =
    sym (pow-add 1000000000 (n - j) j) ∙ (let whole : n - j + j ≡ n = omega arith in ap (λ k. 1000000000 ^ k) whole) in
    let all = 1000000000 ^ n in
    let front : (f * q) * (a * p) ≡ (f * a) * (p * q) = grind arith in
    let back : (g * b) * (p * q) ≡ (g * p) * (b * q) = grind arith in
    cancel (f * q) (g * p) all (power_some 1000000000 n (omega arith))
    (ap (λ z. (f * q) * z) (sym one) ∙ (front ∙ (ap (λ z. z * (p * q)) e ∙ (back ∙ ap (λ z. (g * p) * z) other))))

times_one : (n : ℕ) → n ≡ n * 1
times_one n = omega arith

unit_of : (top places : ℕ) → top * 1000000000 ^ (4294967295 - places) ≡ amount top places 0
unfolding room
unit_of top places =
    let from : places ≡ 0 + places = omega arith in
    ap (λ p. top * 1000000000 ^ (4294967295 - p)) from
    ∙ ap (λ n. top * n) (times_one (1000000000 ^ (4294967295 - (0 + places))))

amount_same : (f g : Fraction) → f.places < 2 ^ 32 → g.places < 2 ^ 32
    → amount (top_of f) f.places 0 ≡ amount (top_of g) g.places 0
    → top_of f * 1000000000 ^ g.places ≡ top_of g * 1000000000 ^ f.places
amount_same f g low less e =
    kept_same (top_of f) (top_of g) f.places g.places 4294967295 (omega arith) (omega arith)
    (unit_of (top_of f) f.places ∙ (e ∙ sym (unit_of (top_of g) g.places)))

-- the lines of outcomes with one row
line_parts : (o : Outcome) (count weight : List ℕ) → List ℕ
line_parts o count weight = count ++ codes " " ++ weight ++ codes " " ++ choices_text o.first.items ++ codes " "
    ++ o.end.items ++ codes " " ++ quoted o.output.items ++ codes "\n"

line_same : (exact by_ends : Bool) (o x : Outcome) (line other : List ℕ) → row_of o ≡ row_of x → o.weight.places < 2 ^ 32
    → x.weight.places < 2 ^ 32 → IsLine exact by_ends o line → IsLine exact by_ends x other → other ≡ line
line_same exact by_ends o x line other row low less g h =
    let count : h.count ≡ g.count = number_same (natural o.count) (natural x.count) g.count h.count g.counted h.counted
    (ap (λ (r : Row). r.count) row) in
    let weight : h.weight ≡ g.weight = weight_same exact o.weight x.weight g.weight h.weight
    (amount_same o.weight x.weight low less (ap (λ (r : Row). r.weight) row)) g.weighed h.weighed in
    let choices : x.first.items ≡ o.first.items = sym (ap (λ (r : Row). r.first) row) in
    let end : x.end.items ≡ o.end.items = sym (ap (λ (r : Row). r.end) row) in
    let output : x.output.items ≡ o.output.items = sym (ap (λ (r : Row). r.output) row) in
    h.same ∙ (rw (count, weight, choices, end, output) refl ∙ sym g.same)

kept_parts : (os : List Outcome) (o : Outcome) → AreKept (os ++ o ∷ []) → AreKept os × (o.weight.places < 2 ^ 32)
kept_parts os o h = All-pop (λ (x : Outcome). x.weight.places < 2 ^ 32) (os ++ o ∷ []) os (Some o) refl h

rows_push : (os : List Outcome) (o : Outcome) → rows_of (os ++ o ∷ []) ≡ rows_of os ++ row_of o ∷ []
rows_push os o = map-append row_of os (o ∷ [])

no_rows : (xs : List Outcome) (x : Outcome) → rows_of [] ≡ rows_of (xs ++ x ∷ []) → ⊥
no_rows xs x e =
    let size = ap length (e ∙ rows_push xs x) in
    let all = length-append (rows_of xs) (row_of x ∷ []) in absurd (omega arith)

lines_same : (exact by_ends : Bool) (os xs : List Outcome) (text other : List ℕ) → rows_of os ≡ rows_of xs → AreKept os
    → AreKept xs → AreLines exact by_ends os text → AreLines exact by_ends xs other → other ≡ text
lines_same exact by_ends os xs text other rows kept held no_line no_line = refl
lines_same exact by_ends os xs text other rows kept held no_line (one_more ys y more line h is) = absurd (no_rows ys y rows)
lines_same exact by_ends os xs text other rows kept held (one_more ps o more line g is) no_line =
    absurd (no_rows ps o (sym rows))
lines_same exact by_ends os xs text other rows kept held (one_more ps o more line g is) (one_more ys y rest last h so) =
    let parts = same_from_push (rows_of ps) (rows_of ys) (row_of o) (row_of y)
    (sym (rows_push ps o) ∙ (rows ∙ rows_push ys y)) in
    let one = kept_parts ps o kept in
    let two = kept_parts ys y held in
    ap₂ (λ a b. a ++ b) (lines_same exact by_ends ps ys more rest parts.0 one.0 two.0 g h)
    (line_same exact by_ends o y line last parts.1 one.1 two.1 is so)

total_same : (os xs : List Outcome) (text other : List ℕ) → rows_of os ≡ rows_of xs → IsTotal os text → IsTotal xs other
    → other ≡ text
total_same os xs text other rows g h =
    let runs : h.runs ≡ g.runs = number_same (count_of (rows_of os)) (count_of (rows_of xs)) g.runs h.runs g.counted
    h.counted (ap count_of rows) in
    let size : length xs ≡ length os =
    sym (length-map xs row_of) ∙ (sym (ap length rows) ∙ length-map os row_of) in
    h.same ∙ (rw (runs, size) refl ∙ sym g.same)

texts_same : (exact by_ends total : Bool) (os xs : List Outcome) (text other : List ℕ) → rows_of os ≡ rows_of xs → AreKept os
    → AreKept xs → IsTextOf exact by_ends total os text → IsTextOf exact by_ends total xs other → other ≡ text
texts_same exact by_ends true os xs text other rows kept held g h = total_same os xs text other rows g h
texts_same exact by_ends false os xs text other rows kept held g h =
    h.same ∙ (ap (λ l. l ++ codes "DONE\n")
    (lines_same exact by_ends os xs g.lines h.lines rows kept held g.are_lines h.are_lines)
    ∙ sym g.same)

pub same_text : (p : Program) (s : State) (limit : ℕ) (exact by_ends total : Bool) (outcomes others : List Outcome)
    (text other : List ℕ) → IsSummary p s limit (rows_of outcomes) → IsSummary p s limit (rows_of others)
    → AreKept outcomes → AreKept others → IsTextOf exact by_ends total outcomes text → IsTextOf exact by_ends total others other
    → other ≡ text
same_text p s limit exact by_ends total outcomes others text other sums sum kept held g h =
    texts_same exact by_ends total outcomes others text other
    (summary-unique p s limit (rows_of outcomes) (rows_of others) sums sum) kept held g h
