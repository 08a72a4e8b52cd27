-- What expressions have, one after another, and the offset of an element, subscript by subscript.
use Rattle.std.proofs.Common.{◌≡◌, ℕ, zero, suc, ◌+◌, ◌<◌, ◌≤◌, ◌∙◌, ◌++◌, Bool, true, false, List, [], ◌∷◌, arith, ap, ap₂, drop}
use Rattle.std.proofs.Common.{get_or, if◌then◌else◌, length, nat_lt, refl, sym, take, take_all}
use Rattle.std.proofs.lemmas.Bool.Decides.{nat_tests}
use Rattle.std.proofs.lemmas.List.{take_more}
use Rattle.std.specs.Prelude.{Option, Some, None, Result, Ok, Err, option_and_then}
use Rattle.ick_bits.specs.declared.faults.FaultKind.{FaultKind}
use Rattle.ick_bits.specs.declared.values.Value.{Value}
use Rattle.ick_bits.specs.Values.{number_of}
use Rattle.ick_code.specs.meaning.State.{State}
use Rattle.ick_code.specs.meaning.Value.{and_then, value_of, values_of}
use Rattle.ick_runtime.specs.Elements.{stride}
use Rattle.ick_runtime.proofs.OffsetLemmas.{beyond, inside, walk, walk_next}
use Rattle.ick_syntax.specs.Tree.{tree_of, trees_in}
use Rattle.ick_syntax.specs.declared.tree.Expr.{Expr}
use Rattle.ick_session.specs.Outcomes.{within}

no_more : (x : Result (List Value) FaultKind) → x ≡ and_then x (λ ws. Ok ws)
no_more (Ok ws) = refl
no_more (Err fault) = refl

one_more : (v : Value) (x y : Result (List Value) FaultKind) →
    and_then (and_then x (λ vs. and_then y (λ ws. Ok (vs ++ ws)))) (λ vs. Ok (v ∷ vs))
    ≡ and_then (and_then x (λ vs. Ok (v ∷ vs))) (λ vs. and_then y (λ ws. Ok (vs ++ ws)))
one_more v (Err fault) y = refl
one_more v (Ok vs) (Err fault) = refl
one_more v (Ok vs) (Ok ws) = refl

first_one : (o : Result Value FaultKind) (x y z : Result (List Value) FaultKind) →
    z ≡ and_then x (λ vs. and_then y (λ ws. Ok (vs ++ ws))) →
    and_then o (λ v. and_then z (λ vs. Ok (v ∷ vs)))
    ≡ and_then (and_then o (λ v. and_then x (λ vs. Ok (v ∷ vs)))) (λ vs. and_then y (λ ws. Ok (vs ++ ws)))
first_one (Err fault) x y z e = refl
first_one (Ok v) x y z e = ap (λ r. and_then r (λ vs. Ok (v ∷ vs))) e ∙ one_more v x y

-- the values of expressions are those of the first ones, and those of the others
values_append : (es fs : List Expr) (s : State) → values_of (trees_in (es ++ fs)) s
    ≡ and_then (values_of (trees_in es) s) (λ vs. and_then (values_of (trees_in fs) s) (λ ws. Ok (vs ++ ws)))
values_append [] fs s = no_more (values_of (trees_in fs) s)
values_append (e ∷ es) fs s =
    first_one (value_of (tree_of e) s) (values_of (trees_in es) s) (values_of (trees_in fs) s)
    (values_of (trees_in (es ++ fs)) s) (values_append es fs s)

-- the values of the first expressions, and of one more
pub values_more : (es : List Expr) (i : ℕ) (e : Expr) (s : State) (vs : List Value) (v : Value) → i < length es →
    e ≡ get_or es i e → Ok vs ≡ values_of (trees_in (take i es)) s → Ok v ≡ value_of (tree_of e) s →
    Ok (vs ++ v ∷ []) ≡ values_of (trees_in (take (i + 1) es)) s
values_more es i e s vs v lt is found value =
    ap₂ (λ x o. and_then x (λ vs. and_then (and_then o (λ v. Ok (v ∷ []))) (λ ws. Ok (vs ++ ws)))) found value
    ∙ (sym (values_append (take i es) (e ∷ []) s)
    ∙ ap (λ l. values_of (trees_in l) s) (ap (λ x. take i es ++ x ∷ []) is ∙ sym (take_more es i e lt)))

split_at : (es : List Expr) (i : ℕ) (e : Expr) → i < length es → es ≡ take i es ++ (get_or es i e ∷ drop (suc i) es)
split_at [] i e lt = absurd (omega arith)
split_at (x ∷ xs) zero e lt = refl
split_at (x ∷ xs) (suc i) e lt = ap (λ l. x ∷ l) (split_at xs i e (omega arith))

-- the first fault
pub values_fail : (es : List Expr) (i : ℕ) (e : Expr) (s : State) (vs : List Value) (fault : FaultKind) →
    i < length es → e ≡ get_or es i e → Ok vs ≡ values_of (trees_in (take i es)) s →
    Err fault ≡ value_of (tree_of e) s → Err fault ≡ values_of (trees_in es) s
values_fail es i e s vs fault lt is found failed =
    ap₂ (λ x o. and_then x (λ vs. and_then (and_then o
    (λ v. and_then (values_of (trees_in (drop (suc i) es)) s) (λ vs. Ok (v ∷ vs)))) (λ ws. Ok (vs ++ ws)))) found failed
    ∙ (sym (values_append (take i es) (e ∷ drop (suc i) es) s)
    ∙ ap (λ l. values_of (trees_in l) s)
    (ap (λ x. take i es ++ (x ∷ drop (suc i) es)) is ∙ sym (split_at es i e lt)))

pub values_all : (es : List Expr) (i : ℕ) (s : State) (vs : List Value) → length es ≤ i →
    Ok vs ≡ values_of (trees_in (take i es)) s → Ok vs ≡ values_of (trees_in es) s
values_all es i s vs le found = found ∙ ap (λ l. values_of (trees_in l) s) (take_all i es le)

-- an offset that isn't below a count, or that isn't there
beyond_count : (o : Option ℕ) (ds : List ℕ) (vs : List Value) (count : ℕ) → None ≡ within count o →
    None ≡ inside count (option_and_then (λ next. walk next ds vs) o)
beyond_count None ds vs count e = refl
beyond_count (Some p) ds vs count e = cases (nat_lt p count) refl e
  where
    cases : (b : Bool) → nat_lt p count ≡ b → None ≡ (if b then Some p else None) →
        None ≡ inside count (walk p ds vs)
    cases true is none = absurd (cc)
    cases false is none = beyond p ds vs count (grind (arith, nat_tests))

below_count : (o : Option ℕ) (p count : ℕ) → Some p ≡ within count o → o ≡ Some p
below_count None p count e = absurd (cc)
below_count (Some q) p count e = cases (nat_lt q count) e
  where
    cases : (b : Bool) → Some p ≡ (if b then Some q else None) → Some q ≡ Some p
    cases true same = sym same
    cases false none = absurd (cc)

same_default : (xs : List ℕ) (i d : ℕ) → i < length xs → get_or xs i 0 ≡ get_or xs i d
same_default [] i d lt = absurd (omega arith)
same_default (x ∷ xs) zero d lt = refl
same_default (x ∷ xs) (suc i) d lt = same_default xs i d (omega arith)

-- no offset behind one more subscript
pub step_none : (ds : List ℕ) (vs : List Value) (p at n count : ℕ) (v : Value) → at < length ds → at < length vs →
    v ≡ get_or vs at v → n ≡ number_of v → None ≡ within count (stride p (get_or ds at 0) n) →
    None ≡ inside count (walk p (drop at ds) (drop at vs))
step_none ds vs p at n count v low high is_v is_n none =
    beyond_count (stride p (get_or ds at 0) n) (drop (at + 1) ds) (drop (at + 1) vs) count none
    ∙ ap (inside count) (walk_next ds vs p at (get_or ds at 0) n v low high
    (same_default ds at (get_or ds at 0) low) is_v is_n)

-- the offset behind one more subscript
pub step_some : (ds : List ℕ) (vs : List Value) (p at n count next : ℕ) (v : Value) → at < length ds →
    at < length vs → v ≡ get_or vs at v → n ≡ number_of v → Some next ≡ within count (stride p (get_or ds at 0) n) →
    inside count (walk next (drop (at + 1) ds) (drop (at + 1) vs)) ≡ inside count (walk p (drop at ds) (drop at vs))
step_some ds vs p at n count next v low high is_v is_n some =
    ap (λ o. inside count (option_and_then (λ q. walk q (drop (at + 1) ds) (drop (at + 1) vs)) o))
    (sym (below_count (stride p (get_or ds at 0) n) next count some))
    ∙ ap (inside count) (walk_next ds vs p at (get_or ds at 0) n v low high
    (same_default ds at (get_or ds at 0) low) is_v is_n)
