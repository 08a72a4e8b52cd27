-- The first fault of statements is found, or they have none: each kind of fault can be told at each statement.
use Rattle.std.proofs.Common.{◌≡◌, ◌<◌, ◌≤◌, ◌/◌, ◌+◌, ◌⊎◌, inl, inr, ℕ, zero, suc}
use Rattle.std.proofs.Common.{List, [], ◌∷◌, Bool, true, false}
use Rattle.std.proofs.Common.{Option, Some, None, ap, refl, subst, arith, length}
use Rattle.std.specs.Prelude.{IsTrue, option_and_then}
use Rattle.std.proofs.lemmas.Bool.{cases_eq, cases_lt}
use Rattle.ick_bits.specs.declared.faults.FaultKind.{FaultKind}
use Rattle.ick_bits.specs.declared.faults.FaultKind.TheVariants.{MeshTooLarge, NameRange, LabelRange, SameLabel}
use Rattle.ick_bits.specs.declared.faults.FaultKind.TheVariants.{NoNextLabel, NoAbstainLabel, Impolite, Fawning}
use Rattle.ick_syntax.specs.declared.labels.LabelUse.{LabelUse}
use Rattle.ick_syntax.specs.declared.labels.LabelUse.TheVariants.{Next, Abstain}
use Rattle.ick_syntax.specs.ProgramFaults.{HoldsAt, IsFaultAt, IsFawningAt, HasLabel, IsImpoliteAt, IsFirstFault}
use Rattle.ick_syntax.specs.ProgramFaults.{IsSound}
use Rattle.ick_syntax.specs.ProgramFaults.{IsSoundBelow, IsLostAt, IsSameLabelAt, rank, used_label}
use Rattle.ick_syntax.specs.StatementFaults.{faults_of_statement}
use Rattle.ick_syntax.specs.StatementTree.{StatementTree, polite_in}
use Rattle.ick_source.proofs.RefusalLemmas.{HoldsAt-inside, sound_all, sound_below_none, sound_more}

-- it is so, or it isn't
abbrev Decided : Type 0 → Type 0
Decided P = P ⊎ (P → ⊥)

true_decided : (b : Bool) → Decided (IsTrue b)
true_decided true = inl refl
true_decided false = inr (λ h. cc)

some_decided : (o : Option ℕ) (v : ℕ) → Decided (o ≡ Some v)
some_decided None v = inr (λ e. cc)
some_decided (Some w) v = elim (cases_eq w v) [ inl same ↦ inl (ap Some same) | inr other ↦ inr (λ e. other (cc)) ]

-- the least number below a bound of which this holds, or none
first_below : (P : ℕ → Type 0) → ((n : ℕ) → Decided (P n)) → (bound : ℕ)
    → ((n : ℕ) × (n < bound) × P n × ((m : ℕ) → m < n → P m → ⊥))
    ⊎ ((m : ℕ) → m < bound → P m → ⊥)
first_below P each zero = inr (λ m below h. omega arith)
first_below P each (suc k) = elim (first_below P each k) [
  | inl found ↦ inl (found.0, (let less = found.1 in omega arith), found.2, found.3)
  | inr none ↦ elim (each k) [
    | inl here ↦ inl (k, omega arith, here, none)
    | inr never ↦ inr (λ m below h. elim (cases_lt m k) [
      | inl less ↦ none m less h
      | inr least ↦ never (subst P (omega arith) h)
    ])
  ]
]

-- whether the statement with a number is such
at_decided : (P : StatementTree → Type 0) → ((t : StatementTree) → Decided (P t))
    → (trees : List StatementTree) (n : ℕ) → Decided (HoldsAt P trees n)
at_decided P each trees zero = inr (λ h. h)
at_decided P each [] (suc k) = inr (λ h. h)
at_decided P each (x ∷ xs) (suc zero) = each x
at_decided P each (x ∷ xs) (suc (suc k)) = at_decided P each xs (suc k)

-- the number that the statement with a number has, if it has one; it has one at most
value_here : (o : Option ℕ) → ((v : ℕ) × (o ≡ Some v)) ⊎ ((v : ℕ) → o ≡ Some v → ⊥)
value_here None = inr (λ v e. cc)
value_here (Some v) = inl (v, refl)

value_at : (f : StatementTree → Option ℕ) (trees : List StatementTree) (n : ℕ)
    → ((v : ℕ) × HoldsAt (λ t. f t ≡ Some v) trees n)
    ⊎ ((v : ℕ) → HoldsAt (λ t. f t ≡ Some v) trees n → ⊥)
value_at f trees zero = inr (λ v h. h)
value_at f [] (suc k) = inr (λ v h. h)
value_at f (x ∷ xs) (suc zero) = value_here (f x)
value_at f (x ∷ xs) (suc (suc k)) = value_at f xs (suc k)

value_one : (f : StatementTree → Option ℕ) (trees : List StatementTree) (n v w : ℕ)
    → HoldsAt (λ t. f t ≡ Some v) trees n → HoldsAt (λ t. f t ≡ Some w) trees n → v ≡ w
value_one f trees zero v w g h = absurd g
value_one f [] (suc k) v w g h = absurd g
value_one f (x ∷ xs) (suc zero) v w g h = cc
value_one f (x ∷ xs) (suc (suc k)) v w g h = value_one f xs (suc k) v w g h

labelled_decided : (trees : List StatementTree) (label n : ℕ) → Decided (HoldsAt (HasLabel label) trees n)
labelled_decided trees label n = at_decided (HasLabel label) (λ t. some_decided t.label label) trees n

same_decided : (trees : List StatementTree) (n : ℕ) → Decided (IsSameLabelAt trees n)
same_decided trees n = elim (value_at (λ t. t.label) trees n) [
  | inr none ↦ inr (λ s. none s.label s.again)
  | inl own ↦ elim (first_below (HoldsAt (HasLabel own.0) trees) (labelled_decided trees own.0) n) [
    | inl found ↦ inl (record { label = own.0; earlier = found.0; before = found.1; first = found.2; again = own.1 })
    | inr none ↦ inr (λ s. none s.earlier s.before
        (subst (λ l. HoldsAt (HasLabel l) trees s.earlier)
        (value_one (λ t. t.label) trees n s.label own.0 s.again own.1) s.first))
  ]
]

lost_decided : (how : LabelUse) (trees : List StatementTree) (n : ℕ) → Decided (IsLostAt how trees n)
lost_decided how trees n = elim (value_at (λ t. option_and_then (used_label how) t.body) trees n) [
  | inr none ↦ inr (λ s. none s.label s.uses)
  | inl used ↦
      elim (first_below (HoldsAt (HasLabel used.0) trees) (labelled_decided trees used.0) (length trees + 1)) [
        | inl found ↦ inr (λ s. s.nowhere found.0 (subst (λ l. HoldsAt (HasLabel l) trees found.0)
            (value_one (λ t. option_and_then (used_label how) t.body) trees n used.0 s.label used.1 s.uses) found.2))
        | inr none ↦ inl (record {
          label = used.0;
          uses = used.1;
          nowhere = λ m h. none m (let inside = HoldsAt-inside (HasLabel used.0) trees m h in omega arith) h;
        })
      ]
]

impolite_decided : (trees : List StatementTree) (n : ℕ) → Decided (IsImpoliteAt trees n)
impolite_decided trees n = elim (cases_eq n (length trees)) [
  | inr other ↦ inr (λ h. other h.last)
  | inl last ↦ elim (cases_lt n 3) [
    | inl two ↦ inr (λ h. let enough = h.enough in omega arith)
    | inr enough ↦ elim (cases_lt (polite_in trees) (n / 5)) [
      | inl few ↦ inl (record { last = last; enough = enough; few = few })
      | inr many ↦ inr (λ h. let few = h.few in omega arith)
    ]
  ]
]

fawning_decided : (trees : List StatementTree) (n : ℕ) → Decided (IsFawningAt trees n)
fawning_decided trees n = elim (cases_eq n (length trees)) [
  | inr other ↦ inr (λ h. other h.last)
  | inl last ↦ elim (cases_lt n 3) [
    | inl two ↦ inr (λ h. let enough = h.enough in omega arith)
    | inr enough ↦ elim (cases_lt (n / 3) (polite_in trees)) [
      | inl many ↦ inl (record { last = last; enough = enough; many = many })
      | inr few ↦ inr (λ h. let many = h.many in omega arith)
    ]
  ]
]

fault_decided : (kind : FaultKind) (trees : List StatementTree) (n : ℕ) → Decided (IsFaultAt kind trees n)
fault_decided MeshTooLarge trees n = at_decided _ (λ t. true_decided (faults_of_statement t).mesh) trees n
fault_decided NameRange trees n = at_decided _ (λ t. true_decided (faults_of_statement t).name) trees n
fault_decided LabelRange trees n = at_decided _ (λ t. true_decided (faults_of_statement t).label) trees n
fault_decided SameLabel trees n = same_decided trees n
fault_decided NoNextLabel trees n = lost_decided Next trees n
fault_decided NoAbstainLabel trees n = lost_decided Abstain trees n
fault_decided Impolite trees n = impolite_decided trees n
fault_decided Fawning trees n = fawning_decided trees n
fault_decided _ trees n = inr (λ h. h)

fault_inside : (kind : FaultKind) (trees : List StatementTree) (n : ℕ) → IsFaultAt kind trees n →
    n ≤ length trees
fault_inside MeshTooLarge trees n h = HoldsAt-inside _ trees n h
fault_inside NameRange trees n h = HoldsAt-inside _ trees n h
fault_inside LabelRange trees n h = HoldsAt-inside _ trees n h
fault_inside SameLabel trees n h = HoldsAt-inside _ trees n h.again
fault_inside NoNextLabel trees n h = HoldsAt-inside _ trees n h.uses
fault_inside NoAbstainLabel trees n h = HoldsAt-inside _ trees n h.uses
fault_inside Impolite trees n h = let last = h.last in omega arith
fault_inside Fawning trees n h = let last = h.last in omega arith
fault_inside _ trees n h = absurd h

-- the first fault of statements, or that they have none
abbrev pub FirstFault : List StatementTree → Type 0
FirstFault trees = ((kind : FaultKind) × (n : ℕ) × IsFirstFault trees kind n) ⊎ IsSound trees

-- one more kind is looked for
then : (kind : FaultKind) (trees : List StatementTree) → rank kind < 8 → IsSoundBelow (rank kind) trees
    → (IsSoundBelow (rank kind + 1) trees → FirstFault trees) → FirstFault trees
then kind trees known below next =
    elim (first_below (IsFaultAt kind trees) (fault_decided kind trees) (length trees + 1)) [
      | inl found ↦ inl (kind, found.0, record { fault = found.2; first = found.3; least = below })
      | inr none ↦ next (sound_more kind refl known below
          (λ n f. none n (let inside = fault_inside kind trees n f in omega arith) f))
    ]

pub first_fault : (trees : List StatementTree) → FirstFault trees
first_fault trees =
    then MeshTooLarge trees (omega arith) (sound_below_none trees) (λ a.
    then NameRange trees (omega arith) a (λ b.
    then LabelRange trees (omega arith) b (λ c.
    then SameLabel trees (omega arith) c (λ d.
    then NoNextLabel trees (omega arith) d (λ e.
    then NoAbstainLabel trees (omega arith) e (λ f.
    then Impolite trees (omega arith) f (λ g.
    then Fawning trees (omega arith) g (λ h. inr (sound_all h)))))))))
