-- Proves laws of keys.
use Prim.Native.Nat.{zero, suc}
use Rattle.std.proofs.Common.{◌≡◌, ℕ, ◌<◌, ◌≤◌, length, drop, List, [], ◌∷◌, ◌++◌, slice_index_or}
use Rattle.std.proofs.Common.{slice_set}
use Rattle.std.proofs.Common.{refl, ap, sym, ◌∙◌, subst, arith}
use Rattle.std.specs.List.{Contains}
use Rattle.std.specs.HashMap.{HashMap}
use Rattle.ick_outcomes.specs.Keys.{key_of, Lacks, IsIndexed}
use Rattle.ick_outcomes.specs.declared.outcome.Outcome.{Outcome}
use Rattle.ick_outcomes.specs.Accounts.{AreApart}
use Rattle.ick_outcomes.specs.Seen.{row_of, rows_of}
use Rattle.ick_outcomes.specs.Summaries.{Row}
use Rattle.ick_outcomes.proofs.Lists.{mapped-at, any_default, at-pushed, at-set}

pub drop-more : (bs : List ℕ) (i d : ℕ) → i < length bs → drop i bs ≡ slice_index_or bs i d ∷ drop (suc i) bs
drop-more [] i d lt = absurd (omega (arith, lt))
drop-more (b ∷ bs) zero d lt = refl
drop-more (b ∷ bs) (suc i) d lt = drop-more bs i d (omega (arith, lt))

pub drop-all : (bs : List ℕ) (i : ℕ) → length bs ≤ i → drop i bs ≡ []
drop-all [] zero h = refl
drop-all [] (suc i) h = refl
drop-all (b ∷ bs) zero h = absurd (omega (arith, h))
drop-all (b ∷ bs) (suc i) h = drop-all bs i (omega (arith, h))

-- if nothing is noted for the key of an outcome, no row has the outcome
pub apart_by_key : {S : Type 0} (places : HashMap ℕ ℕ S) (rs : List Outcome) (more : Outcome) → IsIndexed places rs →
    Lacks places (key_of more.output.items more.end.items) →
    (x : Row) → Contains (rows_of rs) x → AreApart x (row_of more)
apart_by_key places rs more h n x m =
    let i = mapped-at row_of rs more x m in
    λ a b.
    h i.0 more i.1
    (subst (λ z. Lacks places z)
    (sym (ap (λ z. key_of z.output z.end) i.2
    ∙ (ap (λ z. key_of z x.end) a ∙ ap (λ z. key_of more.output.items z) b))) n)

pub indexed_none : {S : Type 0} (places : HashMap ℕ ℕ S) → IsIndexed places []
indexed_none places i d lt = absurd (omega (arith, lt))

pub indexed_push : {S : Type 0} (places places' : HashMap ℕ ℕ S) (rs rs' : List Outcome) (more : Outcome) →
    IsIndexed places rs →
    ((k : ℕ) → Lacks places' k → Lacks places k) → (Lacks places' (key_of more.output.items more.end.items) → ⊥) →
    rs' ≡ rs ++ more ∷ [] → IsIndexed places' rs'
indexed_push places places' rs rs' more h f n e =
    subst (λ z. IsIndexed places' z) (sym e)
    (λ i d lt. at-pushed (λ o. Lacks places' (key_of o.output.items o.end.items) → ⊥) rs more i d lt
    (λ u v. h i d u (f _ v)) n)

pub indexed_set : {S : Type 0} (places : HashMap ℕ ℕ S) (rs : List Outcome) (j : ℕ) (old new : Outcome) →
    IsIndexed places rs →
    j < length rs → old ≡ slice_index_or rs j old →
    new.output.items ≡ old.output.items → new.end.items ≡ old.end.items →
    IsIndexed places (slice_set rs j new)
indexed_set places rs j old new h lt e a b = λ i d lt'.
    at-set (λ o. Lacks places (key_of o.output.items o.end.items) → ⊥) rs j new i d lt' (λ u. h i d u)
    (λ u p n. p (subst (λ z. Lacks places (key_of z.output.items z.end.items)) (e ∙ any_default rs j old d lt)
    (subst (λ z. Lacks places (key_of z old.end.items)) a
    (subst (λ z. Lacks places (key_of new.output.items z)) b n))))

-- the lemmas that a function uses together
pub ruleset indexed = (indexed_push, indexed_set)
