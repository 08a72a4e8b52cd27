-- All faults of statements, one kind after another and one statement after another.
use Rattle.std.proofs.Common.{◌≡◌, ℕ, zero, suc, ◌+◌, ◌<◌, ◌≤◌, ◌⊎◌, inl, inr, List, [], ◌∷◌, ◌++◌, length, get_or, Some, None}
use Rattle.std.proofs.Common.{refl, sym, ap, subst, ◌∙◌, arith}
use Rattle.std.proofs.lemmas.Bool.{cases_order}
use Rattle.std.proofs.lemmas.List.Elements.{Contains-append_cases, Contains-append_left, Contains-get_or, Contains-push}
use Rattle.std.proofs.lemmas.List.Elements.{Contains-push_cases}
use Rattle.std.specs.List.{Contains}
use Rattle.ick_bits.specs.declared.faults.FaultKind.{FaultKind}
use Rattle.ick_bits.specs.declared.faults.FaultKind.TheVariants.{Fawning, Impolite, LabelRange, MeshTooLarge, NameRange}
use Rattle.ick_bits.specs.declared.faults.FaultKind.TheVariants.{NoAbstainLabel, NoNextLabel, SameLabel, Unrecognised}
use Rattle.ick_source.specs.declared.all_faults.FaultAt.{FaultAt}
use Rattle.ick_source.specs.AllFaults.{IsBefore, AreAscending, fault_at, AreAllFaults, IsSought, AreFaultsUpTo}
use Rattle.ick_source.specs.Cut.{IsCut}
use Rattle.ick_source.specs.Listed.{IsAnsweredBy}
use Rattle.ick_source.specs.Refusals.{longest}
use Rattle.ick_syntax.specs.ProgramFaults.{HoldsAt, HasLabel, IsFaultAt, rank}
use Rattle.ick_syntax.specs.StatementTree.{StatementTree}
use Rattle.ick_source.proofs.RefusalLemmas.{HoldsAt-inside, fault_ranked, rank_unique}

fault_inside : (kind : FaultKind) (trees : List StatementTree) (n : ℕ) → IsFaultAt kind trees n → n ≤ length trees
fault_inside MeshTooLarge trees n f = HoldsAt-inside _ trees n f
fault_inside NameRange trees n f = HoldsAt-inside _ trees n f
fault_inside LabelRange trees n f = HoldsAt-inside _ trees n f
fault_inside SameLabel trees n f = HoldsAt-inside _ trees n f.again
fault_inside NoNextLabel trees n f = HoldsAt-inside _ trees n f.uses
fault_inside NoAbstainLabel trees n f = HoldsAt-inside _ trees n f.uses
fault_inside Impolite trees n f = omega (arith, f.last)
fault_inside Fawning trees n f = omega (arith, f.last)
fault_inside _ trees n f = absurd f

no_fault_at_zero : (kind : FaultKind) (trees : List StatementTree) → IsFaultAt kind trees 0 → ⊥
no_fault_at_zero MeshTooLarge trees f = f
no_fault_at_zero NameRange trees f = f
no_fault_at_zero LabelRange trees f = f
no_fault_at_zero SameLabel trees f = f.again
no_fault_at_zero NoNextLabel trees f = f.uses
no_fault_at_zero NoAbstainLabel trees f = f.uses
no_fault_at_zero Impolite trees f = omega (arith, f.enough)
no_fault_at_zero Fawning trees f = omega (arith, f.enough)
no_fault_at_zero _ trees f = f

none_before_first : (kind : FaultKind) (trees : List StatementTree) (n : ℕ) → n ≤ 0 → IsFaultAt kind trees n → ⊥
none_before_first kind trees n le f =
    let none : n ≡ 0 = omega (arith, le) in
    no_fault_at_zero kind trees (subst (IsFaultAt kind trees) none f)

in_none : {x : FaultAt} → Contains [] x → ⊥
in_none h = omega (arith, h.1)

in_first : (x y : FaultAt) (xs : List FaultAt) → Contains (x ∷ xs) y → (x ≡ y) ⊎ Contains xs y
in_first x y xs h = elim (Contains-append_cases (x ∷ []) xs y h) [
  | inl one ↦ elim (Contains-push_cases [] x y one) [ inl none ↦ absurd (in_none none) | inr same ↦ inl same ]
  | inr other ↦ inr other
]

ascending_push : (xs : List FaultAt) (x : FaultAt) → AreAscending xs → ((y : FaultAt) → Contains xs y → IsBefore y x) →
    AreAscending (xs ++ x ∷ [])
ascending_push [] x order before = (λ y h. absurd (in_none h), tt)
ascending_push (z ∷ zs) x order before = (
  λ y h. elim (Contains-push_cases zs x y h) [
    | inl old ↦ order.0 y old
    | inr same ↦ subst (IsBefore z) same (before z (Contains-get_or (z ∷ zs) 0 z (omega arith)))
  ],
  ascending_push zs x order.1 (λ y h. before y (contains_later zs z y h)),
)
  where
    contains_later : (zs : List FaultAt) (z y : FaultAt) → Contains zs y → Contains (z ∷ zs) y
    contains_later zs z y h = (suc h.0, (let lt : h.0 < length zs = h.1 in omega arith), h.2)

pub upto_start : (trees : List StatementTree) → AreFaultsUpTo trees 0 0 []
upto_start trees = record {
  only = λ x h. absurd (in_none h);
  all = λ kind n f sought. elim sought [
    | inl low ↦ absurd (omega (arith, low))
    | inr here ↦ absurd (none_before_first kind trees n here.1 f)
  ];
  order = tt;
}

widen : (limit i : ℕ) (kind : FaultKind) (n : ℕ) → IsSought limit i kind n → IsSought limit (i + 1) kind n
widen limit i kind n (inl low) = inl low
widen limit i kind n (inr here) = inr (here.0, (let le = here.1 in omega (arith, le)))

before_here : (kind : FaultKind) (trees : List StatementTree) (i : ℕ) (y : FaultAt) → IsFaultAt y.kind trees y.number →
    IsFaultAt kind trees (i + 1) → IsSought (rank kind) i y.kind y.number → IsBefore y (fault_at kind (i + 1))
before_here kind trees i y f g (inl low) = inl low
before_here kind trees i y f g (inr here) =
    inr (rank_unique kind y.kind (fault_ranked kind trees (i + 1) g) here.0, (let le = here.1 in omega (arith, le)))

pub upto_more : {trees : List StatementTree} {i : ℕ} {xs : List FaultAt} (kind : FaultKind) →
    AreFaultsUpTo trees (rank kind) i xs → IsFaultAt kind trees (i + 1) →
    AreFaultsUpTo trees (rank kind) (i + 1) (xs ++ fault_at kind (i + 1) ∷ [])
upto_more {trees} {i} {xs} kind h g = record {
  only = λ x c. elim (Contains-push_cases xs (fault_at kind (i + 1)) x c) [
    | inl old ↦ let o = h.only x old in (o.0, widen (rank kind) i x.kind x.number o.1)
    | inr same ↦ subst (λ y. IsFaultAt y.kind trees y.number × IsSought (rank kind) (i + 1) y.kind y.number) same
        (g, inr (refl, omega arith))
  ];
  all = λ other n f sought. elim sought [
    | inl low ↦ Contains-append_left xs _ _ (h.all other n f (inl low))
    | inr here ↦ elim (cases_order n (i + 1)) [
      | inr (inl lt) ↦ Contains-append_left xs _ _ (h.all other n f (inr (here.0, omega (arith, lt))))
      | inr (inr gt) ↦ absurd (let le = here.1 in omega (arith, gt, le))
      | inl same ↦
          let kinds : other ≡ kind = rank_unique kind other (fault_ranked kind trees (i + 1) g) here.0 in
          let both : fault_at kind (i + 1) ≡ fault_at other n = λ j. fault_at (sym kinds j) (sym same j) in
          subst (Contains (xs ++ fault_at kind (i + 1) ∷ [])) both (Contains-push xs (fault_at kind (i + 1)))
    ]
  ];
  order =
      ascending_push xs (fault_at kind (i + 1)) h.order
      (λ y c. let o = h.only y c in before_here kind trees i y o.0 g o.1);
}

pub upto_same : {trees : List StatementTree} {i : ℕ} {xs : List FaultAt} (kind : FaultKind) →
    AreFaultsUpTo trees (rank kind) i xs → (IsFaultAt kind trees (i + 1) → ⊥) →
    AreFaultsUpTo trees (rank kind) (i + 1) xs
upto_same {trees} {i} {xs} kind h n = record {
  only = λ x c. let o = h.only x c in (o.0, widen (rank kind) i x.kind x.number o.1);
  all = λ other m f sought. elim sought [
    | inl low ↦ h.all other m f (inl low)
    | inr here ↦ elim (cases_order m (i + 1)) [
      | inr (inl lt) ↦ h.all other m f (inr (here.0, omega (arith, lt)))
      | inr (inr gt) ↦ absurd (let le = here.1 in omega (arith, gt, le))
      | inl same ↦
          let kinds : other ≡ kind = sym (rank_unique other kind (fault_ranked other trees m f) (sym here.0)) in
          absurd (n (subst (λ k. IsFaultAt k trees (i + 1)) kinds (subst (IsFaultAt other trees) same f)))
    ]
  ];
  order = h.order;
}

pub upto_next : {trees : List StatementTree} {limit i : ℕ} {xs : List FaultAt} → length trees ≤ i →
    AreFaultsUpTo trees limit i xs → AreFaultsUpTo trees (limit + 1) 0 xs
upto_next {trees} {limit} {i} {xs} end h = record {
  only = λ x c. let o = h.only x c in (o.0, inl (lower x.kind x.number o.1));
  all = λ kind n f sought. elim sought [
    | inr here ↦ absurd (none_before_first kind trees n here.1 f)
    | inl low ↦ elim (cases_order (rank kind) limit) [
      | inr (inl lt) ↦ h.all kind n f (inl lt)
      | inr (inr gt) ↦ absurd (omega (arith, low, gt))
      | inl same ↦ h.all kind n f (inr (same, (let inside = fault_inside kind trees n f in omega (arith, inside, end))))
    ]
  ];
  order = h.order;
} where
  lower : (kind : FaultKind) (n : ℕ) → IsSought limit i kind n → rank kind < limit + 1
  lower kind n (inl low) = omega (arith, low)
  lower kind n (inr here) = let e = here.0 in omega (arith, e)

pub upto_all : {trees : List StatementTree} {xs : List FaultAt} → AreFaultsUpTo trees 8 0 xs → AreAllFaults trees xs
upto_all {trees} {xs} h = record {
  only = λ x c. (h.only x c).0;
  all = λ kind n f. h.all kind n f (inl (fault_ranked kind trees n f));
  order = h.order;
}

-- the first of all faults is the one for which a text is refused
pub answered : {text : List ℕ} {trees : List StatementTree} (xs : List FaultAt) → IsCut text trees →
    length text ≤ longest → AreAllFaults trees xs → IsAnsweredBy text trees xs
answered [] cut fits h =
    record { cut = cut; fits = fits; sound = λ kind n f. absurd (in_none (h.all kind n f)) }
answered {trees = trees} (x ∷ xs) cut fits h = record {
  trees = trees;
  cut = cut;
  fits = fits;
  first_fault =
      record {
        fault = h.only x (Contains-get_or (x ∷ xs) 0 x (omega arith));
        first = λ m lt f. elim (in_first x (fault_at x.kind m) xs (h.all x.kind m f)) [
          | inl same ↦ let e = ap (λ (y : FaultAt). y.number) same in omega (arith, lt, e)
          | inr other ↦ elim (h.order.0 (fault_at x.kind m) other) [
            | inl less ↦ omega (arith, less)
            | inr later ↦ let more = later.1 in omega (arith, lt, more)
          ]
        ];
        least =
            record {
              none = λ kind n low f. elim (in_first x (fault_at kind n) xs (h.all kind n f)) [
                | inl same ↦ let e = ap (λ (y : FaultAt). rank y.kind) same in omega (arith, low, e)
                | inr other ↦ elim (h.order.0 (fault_at kind n) other) [
                  | inl less ↦ omega (arith, less, low)
                  | inr later ↦ let e = ap rank later.0 in omega (arith, low, e)
                ]
              ];
            };
      };
}

-- each kind is at its rank in the order of kinds
abbrev pub kinds : List FaultKind
kinds =
    MeshTooLarge ∷ NameRange ∷ LabelRange ∷ SameLabel ∷ NoNextLabel ∷ NoAbstainLabel ∷ Impolite ∷ Fawning ∷ []

pub kind_ranked : (d : FaultKind) (i : ℕ) → i < 8 → rank (get_or kinds i d) ≡ i
kind_ranked d zero lt = refl
kind_ranked d (suc zero) lt = refl
kind_ranked d (suc (suc zero)) lt = refl
kind_ranked d (suc (suc (suc zero))) lt = refl
kind_ranked d (suc (suc (suc (suc zero)))) lt = refl
kind_ranked d (suc (suc (suc (suc (suc zero))))) lt = refl
kind_ranked d (suc (suc (suc (suc (suc (suc zero)))))) lt = refl
kind_ranked d (suc (suc (suc (suc (suc (suc (suc zero))))))) lt = refl
kind_ranked d (suc (suc (suc (suc (suc (suc (suc (suc n)))))))) lt = absurd (omega (arith, lt))
