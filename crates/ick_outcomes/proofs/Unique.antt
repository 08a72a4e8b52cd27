-- Proves that a program has at most one summary.
use Prim.Native.Nat.{zero, suc}
use Rattle.std.proofs.Common.{◌≡◌, ℕ, ◌*◌, ◌/◌, ◌^◌, ◌<◌, Bool, length, List, ◌∷◌, ap, sym, ◌∙◌, subst, arith}
use Rattle.std.proofs.Math.Nat.{pow-succ', mul-div_cancel}
use Rattle.std.specs.List.{Contains}
use Rattle.ick_code.specs.meaning.State.{State}
use Rattle.ick_outcomes.specs.Programs.{Program}
use Rattle.ick_explorer.proofs.ListingLaws.{increasing_unique, lists_unique}
use Rattle.ick_outcomes.specs.Weights.{whole, shares}
use Rattle.ick_outcomes.specs.Summaries.{Row, IsRow, IsSummary}
use Rattle.ick_outcomes.proofs.Ends.{first-has}
use Rattle.ick_outcomes.proofs.Apart.{has-other}

power-some : (l : ℕ) → 0 < 100 ^ l
power-some zero = omega arith
power-some (suc l) = let i = power-some l in let e = pow-succ' 100 l in omega (arith, i, e)

cancel : (a b n : ℕ) → 0 < n → a * n ≡ b * n → a ≡ b
cancel a b n lt e = sym (mul-div_cancel a lt) ∙ (ap (λ z. z / n) e ∙ mul-div_cancel b lt)

same_row : (r x : Row) → r.output ≡ x.output → r.end ≡ x.end → r.count ≡ x.count → r.weight ≡ x.weight →
    r.first ≡ x.first → r ≡ x
same_row r x a b c d e =
    ap (λ z. let y : Row =
    record { output = z; end = r.end; count = r.count; weight = r.weight; first = r.first } in y) a
    ∙ (ap (λ z. let y : Row =
    record { output = x.output; end = z; count = r.count; weight = r.weight; first = r.first } in y) b
    ∙ (ap (λ z. let y : Row =
    record { output = x.output; end = x.end; count = z; weight = r.weight; first = r.first } in y) c
    ∙ (ap (λ z. let y : Row =
    record { output = x.output; end = x.end; count = x.count; weight = z; first = r.first } in y) d
    ∙ ap (λ z. let y : Row =
    record { output = x.output; end = x.end; count = x.count; weight = x.weight; first = z } in y) e)))

head-same : (x y : List Bool) (xs ys : List (List Bool)) → x ∷ xs ≡ y ∷ ys → x ≡ y
head-same x y xs ys e = cc

-- an outcome has at most one row
pub row-unique : (p : Program) (s : State) (l : ℕ) (r x : Row) → r.output ≡ x.output → r.end ≡ x.end →
    IsRow p s l r → IsRow p s l x → r ≡ x
row-unique p s l r x a b h k =
    let runs : r.first ∷ h.others ≡ x.first ∷ k.others =
    lists_unique (r.first ∷ h.others) (x.first ∷ k.others) h.runs.increasing k.runs.increasing
    (λ c m. k.runs.complete c (has-other p s l r x c a b (h.runs.sound c m)))
    (λ c m. h.runs.complete c (has-other p s l x r c (sym a) (sym b) (k.runs.sound c m))) in
    same_row r x a b (h.counted ∙ (ap length runs ∙ sym k.counted))
    (cancel r.weight x.weight (100 ^ l) (power-some l)
    (h.weighed ∙ (ap (λ z. whole * shares p s l z) runs ∙ sym k.weighed)))
    (head-same r.first x.first h.others k.others runs)

members : (p : Program) (s : State) (l : ℕ) (rs xs : List Row) → IsSummary p s l rs → IsSummary p s l xs →
    (r : Row) → Contains rs r → Contains xs r
members p s l rs xs u v r m =
    let h = u.sound r m in
    let has = first-has p s l r h in
    let y = v.complete r.first has.whole in
    subst (λ z. Contains xs z)
    (sym (row-unique p s l r y.0 (sym has.same_output ∙ y.2.same_output) (sym has.same_end ∙ y.2.same_end) h
    (v.sound y.0 y.1))) y.1

pub summary-unique : (p : Program) (s : State) (l : ℕ) (rs xs : List Row) → IsSummary p s l rs → IsSummary p s l xs →
    rs ≡ xs
summary-unique p s l rs xs u v =
    increasing_unique (λ r. r.first) rs xs u.increasing v.increasing (members p s l rs xs u v) (members p s l xs rs v u)
