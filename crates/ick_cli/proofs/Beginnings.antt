-- Beginnings of texts, and of a listing's.
use Rattle.std.proofs.Common.{◌≡◌, ◌∙◌, ◌+◌, ◌≤◌, ◌++◌, ℕ, zero, suc, Bool, List, []}
use Rattle.std.proofs.Common.{◌∷◌, ap, append_assoc, arith, drop, length, refl, sym, take}
use Rattle.std.proofs.Math.Seq.{take-append-add, take-append_seam}
use Rattle.std.proofs.lemmas.Grind.{flat_map-append}
use Rattle.std.proofs.lemmas.List.{take-append-drop, take-take}
use Rattle.ick_code.specs.meaning.State.{State}
use Rattle.ick_backtrack.specs.Machine.{Program}
use Rattle.ick_explorer.specs.Lines.{last_line, line_after, line_next, listed_of, run_line, run_lines, shown}

-- the text begins so
abbrev pub IsBeginning : List ℕ → List ℕ → Type 0
IsBeginning x text = (n : ℕ) × (x ≡ take n text)

begins_front : (x a b : List ℕ) → x ≡ a → IsBeginning x (a ++ b)
begins_front x a b e = (length a, e ∙ sym (take-append_seam a b))

begins_behind : (a x b : List ℕ) → IsBeginning x b → IsBeginning (a ++ x) (a ++ b)
begins_behind a x b (n, e) = (length a + n, ap (λ t. a ++ t) e ∙ sym (take-append-add a b n))

front_of_front : (n : ℕ) (a b : List ℕ) → IsBeginning (take n a) (a ++ b)
front_of_front zero a b = (0, refl)
front_of_front (suc n) [] b = (0, refl)
front_of_front (suc n) (x ∷ a) b = let r = front_of_front n a b in (suc r.0, ap (λ t. x ∷ t) r.1)

-- the text of a listing, after the lines of its first k runs
rest_text : Program → State → ℕ → List (List Bool) → ℕ → ℕ → List ℕ
rest_text p s l cs count k = run_lines p s l (drop k (take count cs)) ++ last_line (listed_of cs count)

shown_after : (p : Program) (s : State) (l : ℕ) (cs : List (List Bool)) (count k : ℕ)
    → take k (take count cs) ≡ take k cs
    → shown p s l cs count ≡ run_lines p s l (take k cs) ++ rest_text p s l cs count k
unfolding rest_text
shown_after p s l cs count k same =
    ap (λ xs. run_lines p s l xs ++ last_line (listed_of cs count)) (sym (take-append-drop k (take count cs)))
    ∙ (ap (λ t. t ++ last_line (listed_of cs count))
    (flat_map-append (run_line p s l) (take k (take count cs)) (drop k (take count cs)))
    ∙ (append_assoc (run_lines p s l (take k (take count cs))) (run_lines p s l (drop k (take count cs)))
    (last_line (listed_of cs count))
    ∙ ap (λ xs. run_lines p s l xs ++
    (run_lines p s l (drop k (take count cs)) ++ last_line (listed_of cs count))) same))

-- whole lines are a beginning
pub lines_begin : (p : Program) (s : State) (l : ℕ) (cs : List (List Bool)) (count k : ℕ) → k ≤ count
    → IsBeginning (run_lines p s l (take k cs)) (shown p s l cs count)
lines_begin p s l cs count k h =
    let r = begins_front (run_lines p s l (take k cs)) (run_lines p s l (take k cs))
    (rest_text p s l cs count k) refl in
    (r.0, r.1 ∙ ap (take r.0) (sym (shown_after p s l cs count k (take-take k count cs h))))

-- the next line stands at the front of the rest
next_in_front : (p : Program) (s : State) (l : ℕ) (xs : List (List Bool)) (last : List ℕ) (n : ℕ)
    → IsBeginning (take n (line_next p s l xs last)) (run_lines p s l xs ++ last)
next_in_front p s l [] last n = (n, refl)
next_in_front p s l (c ∷ xs) last n =
    let r = front_of_front n (run_line p s l c) (run_lines p s l xs ++ last) in
    (r.0, r.1 ∙ ap (take r.0) (sym (append_assoc (run_line p s l c) (run_lines p s l xs) last)))

-- whole lines and a part of the next one are a beginning
pub part_begins : (p : Program) (s : State) (l : ℕ) (cs : List (List Bool)) (count k n : ℕ)
    → k ≤ length (take count cs)
    → IsBeginning (run_lines p s l (take k cs) ++ take n (line_after p s l cs count k)) (shown p s l cs count)
unfolding rest_text
part_begins p s l cs count k n h =
    let r = begins_behind (run_lines p s l (take k cs)) (take n (line_after p s l cs count k))
    (rest_text p s l cs count k)
    (next_in_front p s l (drop k (take count cs)) (last_line (listed_of cs count)) n) in
    (r.0, r.1 ∙ ap (take r.0) (sym (shown_after p s l cs count k (first_of_all k count cs h))))
  where
    first_of_all : (k n : ℕ) (cs : List (List Bool)) → k ≤ length (take n cs) → take k (take n cs) ≡ take k cs
    first_of_all zero n cs h = refl
    first_of_all (suc k) zero cs h = absurd (omega arith)
    first_of_all (suc k) (suc n) [] h = refl
    first_of_all (suc k) (suc n) (c ∷ cs) h = ap (λ r. c ∷ r) (first_of_all k n cs (omega arith))
