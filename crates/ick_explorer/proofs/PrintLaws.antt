-- How groups are printed one after another.
use Rattle.std.proofs.Common.{◌≡◌, ℕ, ◌+◌, ◌<◌, ◌≤◌, Bool, List, [], ◌∷◌, ◌++◌, map}
use Rattle.std.proofs.Common.{length, take, drop, refl, ap, sym, ◌∙◌, arith, append_assoc}
use Rattle.std.specs.Prelude.{replicate}
use Rattle.std.proofs.lemmas.List.{append-nil, length-append, length-drop}
use Rattle.std.proofs.Math.Seq.{drop-length}
use Rattle.ick_explorer.specs.ChoiceTexts.{group_of, group_text, grouped_text, later_text, stretches}
use Rattle.ick_explorer.specs.Printing.{StartsOther}
use Rattle.ick_explorer.proofs.DropLaws.{drop_twice}
use Rattle.ick_explorer.proofs.GroupLaws.{text_front, later_by}

-- one group was printed: what stands there, and what is to follow
pushed : (old out out' : List ℕ) (choices rest : List Bool) (at n : ℕ) (b : Bool) → rest ≡ drop at choices →
    out ++ grouped_text (drop at choices) ≡ old ++ grouped_text choices → take n rest ≡ replicate n b →
    0 < n → StartsOther b (drop n rest) →
    out' ≡ out ++ group_text (group_of (record { choice = b; size = n })) →
    out' ++ later_text (map group_of (stretches (drop (at + n) choices))) ≡ old ++ grouped_text choices
pushed old out out' choices rest at n b r text same some other e =
    let left : drop n rest ≡ drop (at + n) choices = ap (drop n) r ∙ drop_twice at n choices in
    let front = text_front rest n b same some other in
    ap (λ x. x ++ later_text (map group_of (stretches (drop (at + n) choices)))) e
    ∙ (append_assoc out (group_text (group_of (record { choice = b; size = n })))
    (later_text (map group_of (stretches (drop (at + n) choices))))
    ∙ (ap (λ x. out ++ x) (ap (λ x. group_text (group_of (record { choice = b; size = n }))
    ++ later_text (map group_of (stretches x))) (sym left) ∙ (sym front ∙ ap grouped_text r))
    ∙ text))

pub pushed_last : (old out out' : List ℕ) (choices rest : List Bool) (at n : ℕ) (b : Bool) →
    rest ≡ drop at choices → out ++ grouped_text (drop at choices) ≡ old ++ grouped_text choices →
    take n rest ≡ replicate n b → 0 < n → StartsOther b (drop n rest) →
    out' ≡ out ++ group_text (group_of (record { choice = b; size = n })) → at + n ≡ length choices →
    out' ≡ old ++ grouped_text choices
pushed_last old out out' choices rest at n b r text same some other e all =
    let none : drop (at + n) choices ≡ [] = ap (λ k. drop k choices) all ∙ drop-length choices in
    sym (append-nil out') ∙ (ap (λ x. out' ++ later_text (map group_of (stretches x))) (sym none)
    ∙ pushed old out out' choices rest at n b r text same some other e)

pub pushed_on : (old out out' : List ℕ) (choices rest : List Bool) (at n : ℕ) (b : Bool) →
    rest ≡ drop at choices → out ++ grouped_text (drop at choices) ≡ old ++ grouped_text choices →
    take n rest ≡ replicate n b → 0 < n → StartsOther b (drop n rest) →
    out' ≡ out ++ group_text (group_of (record { choice = b; size = n })) → at + n < length choices →
    out' ++ (44 ∷ []) ++ grouped_text (drop (at + n) choices) ≡ old ++ grouped_text choices
pushed_on old out out' choices rest at n b r text same some other e more =
    let size = length-drop (at + n) choices in
    let some_left : 0 < length (drop (at + n) choices) = omega (arith, size, more) in
    append_assoc out' (44 ∷ []) (grouped_text (drop (at + n) choices))
    ∙ (ap (λ x. out' ++ x) (sym (later_by (drop (at + n) choices) some_left))
    ∙ pushed old out out' choices rest at n b r text same some other e)

-- there was room for no more than the whole text
pub group_fits : (old out before : List ℕ) (choices rest : List Bool) (at n : ℕ) (b : Bool) →
    rest ≡ drop at choices → out ++ before ++ grouped_text (drop at choices) ≡ old ++ grouped_text choices →
    take n rest ≡ replicate n b → 0 < n → StartsOther b (drop n rest) →
    length out + length (before ++ group_text (group_of (record { choice = b; size = n })))
    ≤ length old + length (grouped_text choices)
group_fits old out before choices rest at n b r text same some other =
    let group = group_text (group_of (record { choice = b; size = n })) in
    let later = later_text (map group_of (stretches (drop (at + n) choices))) in
    let front = out ++ before in
    let all = ap length (pushed old front (front ++ group) choices rest at n b r text same some other refl) in
    let x = length-append (front ++ group) later in
    let y = length-append front group in
    let z = length-append old (grouped_text choices) in
    let u = length-append out before in
    let v = length-append before group in
    omega (arith, all, x, y, z, u, v)

pub longer_by : (out out' before group : List ℕ) → out' ≡ out ++ before ++ group → length out ≤ length out'
longer_by out out' before group e =
    let x = length-append (out ++ before) group in
    let y = length-append out before in
    let z = ap length e in
    omega (arith, x, y, z)
