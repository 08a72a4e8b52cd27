-- The lines of parts, one more at a time.
use Rattle.std.proofs.Common.{◌≡◌, ◌∙◌, ℕ, ◌+◌, ◌<◌, ◌≤◌, if◌then◌else◌, Bool, true, false, List, [], ◌∷◌, ◌++◌, length, take}
use Rattle.std.proofs.Common.{get_or, ap, sym, arith, append_assoc}
use Rattle.std.proofs.lemmas.List.{append-nil, take_more}
use Rattle.ick_places.specs.declared.mark.Mark.{Mark}
use Rattle.ick_places.specs.Marks.{is_operation}
use Rattle.ick_stages.specs.Parts.{count_of, part_text, parts_from}

-- how many operations are made of these parts
abbrev pub counts : List Mark → ℕ
counts [] = 0
counts (m ∷ ms) = count_of m + counts ms

pub parts_more : (number start : ℕ) (xs : List Mark) (m : Mark) (all : Bool) →
    parts_from number start (xs ++ m ∷ []) all
    ≡ parts_from number start xs all ++ part_text (number + counts xs) start m all
parts_more number start [] m all =
    let same : number ≡ number + 0 = omega arith in
    append-nil (part_text number start m all) ∙ ap (λ n. part_text n start m all) same
parts_more number start (x ∷ xs) m all =
    let same : number + count_of x + counts xs ≡ number + (count_of x + counts xs) = omega arith in
    ap (λ l. part_text number start x all ++ l)
    (parts_more (number + count_of x) start xs m all
    ∙ ap (λ n. parts_from (number + count_of x) start xs all ++ part_text n start m all) same)
    ∙ sym (append_assoc (part_text number start x all) _ _)

pub counts_more : (xs : List Mark) (m : Mark) → counts (xs ++ m ∷ []) ≡ counts xs + count_of m
counts_more [] m = omega arith
counts_more (x ∷ xs) m = omega (arith, counts_more xs m)

one_at_most : (b : Bool) → (if b then 1 else 0) ≤ 1
one_at_most true = omega arith
one_at_most false = omega arith

pub counts_few : (xs : List Mark) → counts xs ≤ length xs
counts_few [] = omega arith
counts_few (x ∷ xs) = omega (arith, counts_few xs, one_at_most (is_operation x.part))

pub parts_taken : (start : ℕ) (xs : List Mark) (all : Bool) (k : ℕ) (d : Mark) (number : ℕ) → k < length xs →
    number ≡ counts (take k xs) →
    parts_from 0 start (take k xs) all ++ part_text number start (get_or xs k d) all
    ≡ parts_from 0 start (take (k + 1) xs) all
parts_taken start xs all k d number low e =
    let none : 0 + counts (take k xs) ≡ number = omega (arith, e) in
    sym (ap (λ l. parts_from 0 start l all) (take_more xs k d low)
    ∙ parts_more 0 start (take k xs) (get_or xs k d) all
    ∙ ap (λ n. parts_from 0 start (take k xs) all ++ part_text n start (get_or xs k d) all) none)

pub counts_taken : (xs : List Mark) (k : ℕ) (d : Mark) (number : ℕ) → k < length xs → number ≡ counts (take k xs) →
    number + count_of (get_or xs k d) ≡ counts (take (k + 1) xs)
counts_taken xs k d number low e =
    ap (λ n. n + count_of (get_or xs k d)) e
    ∙ sym (ap counts (take_more xs k d low) ∙ counts_more (take k xs) (get_or xs k d))
