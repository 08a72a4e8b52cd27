-- Proves that rows without counts have infinitely many runs.
use Prim.Native.Nat.{zero, suc}
use Rattle.std.proofs.Common.{◌≡◌, ◌⊎◌, inl, inr, ℕ, ◌+◌, ◌<◌, ◌≤◌, Bool, List, [], ◌∷◌, length, Option, Some, None}
use Rattle.std.proofs.Common.{refl, ap, sym, ◌∙◌, subst, arith, slice_get, slice_index_or}
use Rattle.std.specs.Prelude.{option_map}
use Rattle.ick_code.specs.meaning.State.{State}
use Rattle.ick_outcomes.specs.Programs.{ask, Program}
use Rattle.ick_backtrack.specs.Asked.{Finish, asked_at_end}
use Rattle.ick_explorer.specs.Lines.{end_text}
use Rattle.ick_numbers.specs.Values.{natural}
use Rattle.ick_numbers.specs.declared.natural.Natural.{Natural}
use Rattle.ick_outcomes.proofs.Lists.{get-mapped}
use Rattle.ick_chain.specs.Chains.{IsChain}
use Rattle.ick_chain.specs.Counts.{counts_of}
use Rattle.ick_chain.specs.ExactListings.{HasEndlessRuns}
use Rattle.ick_chain.specs.Lines.{AreEndless, GoesRound}
use Rattle.ick_chain.specs.Rows.{Row, row_of, rows_of}
use Rattle.ick_chain.specs.declared.chain.Node.{Node}
use Rattle.ick_chain.specs.declared.row.Row.{Row as Kept}
use Rattle.ick_chain.proofs.ShownLaws.{is_shown}
use Rattle.ick_chain.proofs.Walks.{lead_round}

-- runs go round as often as they may, and end with the outcome of a row
pub goes_endless : (p : Program) (seen : ℕ → State) (nodes : List Node) (at : ℕ) (before around behind : List Bool)
    (end : ℕ) (finish : Finish) (r : Row) → IsChain p seen nodes → GoesRound nodes at before around behind end →
    asked_at_end finish ≡ Some (ask p (seen end)) → r.output ≡ (seen end).output → r.end ≡ end_text finish →
    HasEndlessRuns p (seen 0) r
goes_endless p seen nodes at before around behind end finish r chain h a o e n =
    let c = lead_round p (seen 0) (seen at) (seen end) before around behind (h.there p seen chain)
    (h.round p seen chain) (h.on p seen chain) h.some n in
    (c.0, c.1, is_shown p (seen 0) c.0 (seen end) finish r.output r.end c.2 a o e)

-- so it is for the rows before an index
abbrev pub EndlessBelow : Program → State → List Kept → List (Option Natural) → ℕ → Type 0
EndlessBelow p s rows counts k = (i : ℕ) (r : Row) → i < k → slice_get (rows_of rows) i ≡ Some r →
    slice_get (counts_of counts) i ≡ Some None → HasEndlessRuns p s r

no-count : (n : Option Natural) → option_map natural n ≡ None → n ≡ None
no-count None e = refl
no-count (Some n) e = let z : Some (natural n) ≡ None = e in cc

pub endless_more : (p : Program) (s : State) (rows : List Kept) (counts : List (Option Natural)) (k : ℕ) (row : Kept)
    (count : Option Natural) → k < length rows → k < length counts → row ≡ slice_index_or rows k row →
    count ≡ slice_index_or counts k count → (count ≡ None → HasEndlessRuns p s (row_of row)) →
    EndlessBelow p s rows counts k → EndlessBelow p s rows counts (k + 1)
endless_more p s rows counts k row count lr lc er ec h f i r lt gr gc = by_place (split i k lt)
  where
    split : (i k : ℕ) → i < k + 1 → (i < k) ⊎ (i ≡ k)
    split zero zero lt = inr refl
    split zero (suc k) lt = inl (omega arith)
    split (suc i) zero lt = absurd (omega (arith, lt))
    split (suc i) (suc k) lt = elim (split i k (omega (arith, lt))) [
      | inl x ↦ inl (omega (arith, x))
      | inr e ↦ inr (ap suc e)
    ]

    by_place : (i < k) ⊎ (i ≡ k) → HasEndlessRuns p s r
    by_place (inl below) = f i r below gr gc
    by_place (inr e) =
        let gr' : slice_get (rows_of rows) k ≡ Some r = subst (λ z. slice_get (rows_of rows) z ≡ Some r) e gr in
        let gc' : slice_get (counts_of counts) k ≡ Some None =
        subst (λ z. slice_get (counts_of counts) z ≡ Some None) e gc in
        let x : Some (row_of row) ≡ Some r =
        ap (λ (z : Kept). Some (row_of z)) er ∙ (sym (get-mapped row_of rows k row lr) ∙ gr') in
        let y : Some (option_map natural count) ≡ Some None =
        ap (λ (z : Option Natural). Some (option_map natural z)) ec
        ∙ (sym (get-mapped (λ n. option_map natural n) counts k count lc) ∙ gc') in
        let x' : row_of row ≡ r = cc in
        let y' : option_map natural count ≡ None = cc in
        subst (HasEndlessRuns p s) x' (h (no-count count y'))

below-length : {A : Type 0} (xs : List A) (i : ℕ) (x : A) → slice_get xs i ≡ Some x → i < length xs
below-length [] i x h = let z : None ≡ Some x = h in cc
below-length (y ∷ xs) zero x h = omega arith
below-length (y ∷ xs) (suc i) x h = let k = below-length xs i x h in omega (arith, k)

rows-long : (rows : List Kept) → length (rows_of rows) ≡ length rows
rows-long [] = refl
rows-long (x ∷ rows) = ap suc (rows-long rows)

pub endless_all : (p : Program) (s : State) (rows : List Kept) (counts : List (Option Natural)) (k : ℕ) →
    length rows ≤ k → EndlessBelow p s rows counts k → AreEndless p s (rows_of rows) (counts_of counts)
endless_all p s rows counts k le f i r gr gc =
    let a = below-length (rows_of rows) i r gr in
    let b = rows-long rows in
    f i r (omega (arith, a, b, le)) gr gc
