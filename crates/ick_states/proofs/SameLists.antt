-- Proves lemmas on lists that are compared.
use Rattle.std.proofs.Common.{◌≡◌, ℕ, ◌+◌, ◌<◌, List, map, take, length, get_or, ap, sym, ◌∙◌, arith}
use Rattle.std.proofs.lemmas.List.{get_or-map, length-map, take-map, take-take}
use Rattle.ick_marks.proofs.Saving.{firsts, one_more}

-- lists that are compared value by value
pub compared_next : {A B : Type 0} (f : A → B) (xs ys : List A) (at : ℕ) (x y : A) → at < length xs →
    length xs ≡ length ys → x ≡ get_or xs at x → y ≡ get_or ys at y → f x ≡ f y →
    take at (map f xs) ≡ take at (map f ys) → take (at + 1) (map f xs) ≡ take (at + 1) (map f ys)
compared_next f xs ys at x y within count read read' same done =
    let other = one_more f ys at y (omega (arith, within, count)) read' in
    cc (one_more f xs at x within read, other, same, done)

-- values that stand at the same place of lists that are equal
pub compared_at : {A B : Type 0} (f : A → B) (xs ys : List A) (at : ℕ) (x y : A) → at < length xs →
    length xs ≡ length ys → x ≡ get_or xs at x → y ≡ get_or ys at y → map f xs ≡ map f ys → f x ≡ f y
compared_at f xs ys at x y within count read read' same =
    let mine = get_or-map f xs at x (f x) within in
    let other = get_or-map f ys at y (f x) (omega (arith, within, count)) in
    ap f read ∙ sym mine ∙ ap (λ zs. get_or zs at (f x)) same ∙ other ∙ sym (ap f read')

-- lists of equal values are equally long
pub compared_long : {A B : Type 0} (f : A → B) (xs ys : List A) → map f xs ≡ map f ys → length xs ≡ length ys
compared_long f xs ys same = sym (length-map xs f) ∙ ap length same ∙ length-map ys f

-- for lists that are compared value by value
pub ruleset value_by_value = (compared_next, compared_at, compared_long, firsts, take-map, take-take)
