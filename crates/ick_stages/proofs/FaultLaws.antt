-- The number of a part, byte by byte, and the first part that has a fault.
use Rattle.std.proofs.Common.{◌≡◌, ◌∙◌, ℕ, suc, ◌+◌, ◌-◌, ◌*◌, ◌<◌, Bool, true, false, List, [], ◌∷◌, ◌++◌, length, drop, map}
use Rattle.std.proofs.Common.{get_or, min, ap, arith, refl, sym, Some}
use Rattle.std.proofs.Math.Seq.{drop-cons}
use Rattle.std.proofs.lemmas.List.{append-nil, map-append}
use Rattle.std.proofs.lemmas.List.Elements.{filter-append}
use Rattle.std.specs.Prelude.{if◌then◌else◌}
use Rattle.std.specs.List.{filter, range_with_len}
use Rattle.ick_bits.specs.declared.faults.FaultKind.{FaultKind}
use Rattle.ick_inspect.proofs.AddLaws.{range_more}
use Rattle.ick_places.specs.declared.mark.Mark.{Mark}
use Rattle.ick_source.specs.Bytes.{byte}
use Rattle.ick_source.specs.Reading.{value_after}
use Rattle.ick_source.specs.Token.{cap, is_digit, value_of_digits}
use Rattle.ick_source.proofs.NumberLemmas.{value-is}
use Rattle.ick_stages.specs.Faults.{digits_in, faulty_in, is_faulty, span_of}

after-append : (xs : List ℕ) (d n : ℕ) → value_after n (xs ++ d ∷ []) ≡ value_after n xs * 10 + (d - 48)
unfolding value_after
after-append [] d n = refl
after-append (x ∷ xs) d n = after-append xs d (n * 10 + (x - 48))

value-append : (xs : List ℕ) (d : ℕ) → value_of_digits (xs ++ d ∷ []) ≡ value_of_digits xs * 10 + (d - 48)
value-append xs d =
    sym (value-is (xs ++ d ∷ [])) ∙ (after-append xs d 0 ∙ ap (λ v. v * 10 + (d - 48)) (value-is xs))

one-more : (source : List ℕ) (from n : ℕ) →
    digits_in source from (n + 1) ≡ digits_in source from n ++ filter is_digit (byte source (from + n) ∷ [])
one-more source from n =
    ap (λ l. filter is_digit (map (byte source) l)) (range_more from n)
    ∙ (ap (filter is_digit) (map-append (byte source) (range_with_len from n) ((from + n) ∷ []))
    ∙ filter-append is_digit (map (byte source) (range_with_len from n)) (byte source (from + n) ∷ []))

pub number_more : (source : List ℕ) (from n number next : ℕ) →
    number ≡ min (value_of_digits (digits_in source from n)) cap →
    (is_digit (byte source (from + n)) ≡ true → next ≡ min (number * 10 + (byte source (from + n) - 48)) cap) →
    (is_digit (byte source (from + n)) ≡ false → next ≡ number) →
    next ≡ min (value_of_digits (digits_in source from (n + 1))) cap
number_more source from n number next is digit other = cases (is_digit b) refl
  where
    b : ℕ
    b = byte source (from + n)

    cases : (d : Bool) → is_digit b ≡ d → next ≡ min (value_of_digits (digits_in source from (n + 1))) cap
    cases true e =
        let kept : filter is_digit (b ∷ []) ≡ b ∷ [] = rw e refl in
        let more : digits_in source from (n + 1) ≡ digits_in source from n ++ b ∷ [] =
        one-more source from n ∙ ap (λ l. digits_in source from n ++ l) kept in
        let value = ap value_of_digits more ∙ value-append (digits_in source from n) b in
        omega (arith, digit e, is, value)
    cases false e =
        let left : filter is_digit (b ∷ []) ≡ [] = rw e refl in
        let more : digits_in source from (n + 1) ≡ digits_in source from n =
        one-more source from n ∙ (ap (λ l. digits_in source from n ++ l) left ∙ append-nil (digits_in source from n)) in
        other e ∙ (is ∙ ap (λ l. min (value_of_digits l) cap) (sym more))

pub number_first : (source : List ℕ) (from : ℕ) → 0 ≡ min (value_of_digits (digits_in source from 0)) cap
unfolding value_of_digits
number_first source from = refl

-- whether the next part has the fault
pub faulty_next : (source : List ℕ) (kind : FaultKind) (marks : List Mark) (k : ℕ) (d : Mark) → k < length marks →
    faulty_in source kind (drop k marks)
    ≡ (if is_faulty source kind (get_or marks k d) then Some (span_of (get_or marks k d))
    else faulty_in source kind (drop (k + 1) marks))
faulty_next source kind marks k d low =
    let same : suc k ≡ k + 1 = omega arith in
    ap (faulty_in source kind) (drop-cons marks k d low ∙ ap (λ n. get_or marks k d ∷ drop n marks) same)

pub faulty_yes : (source : List ℕ) (kind : FaultKind) (marks : List Mark) (k : ℕ) (d : Mark) → k < length marks →
    is_faulty source kind (get_or marks k d) ≡ true → faulty_in source kind marks ≡ faulty_in source kind (drop k marks) →
    faulty_in source kind marks ≡ Some (span_of (get_or marks k d))
faulty_yes source kind marks k d low e h =
    h ∙ (faulty_next source kind marks k d low
    ∙ ap (λ b. if b then Some (span_of (get_or marks k d)) else faulty_in source kind (drop (k + 1) marks)) e)

pub faulty_no : (source : List ℕ) (kind : FaultKind) (marks : List Mark) (k : ℕ) (d : Mark) → k < length marks →
    is_faulty source kind (get_or marks k d) ≡ false → faulty_in source kind marks ≡ faulty_in source kind (drop k marks) →
    faulty_in source kind marks ≡ faulty_in source kind (drop (k + 1) marks)
faulty_no source kind marks k d low e h =
    h ∙ (faulty_next source kind marks k d low
    ∙ ap (λ b. if b then Some (span_of (get_or marks k d)) else faulty_in source kind (drop (k + 1) marks)) e)
