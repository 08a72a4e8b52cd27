-- That a run can go on is a proposition, and states are a set: what is known of either comes out of a truncation.
use Rattle.std.proofs.Common.{[], ap, arith, inl, inr, List, ℕ, ◌<◌, ◌∷◌, ◌≡◌, ◌⊎◌}
use Rattle.ick_marks.proofs.Names.{Code, fun_ext, IsReady, IsSteady, LoweredParts, props, State, View, ∥∥₁_elim}
use Rattle.ick_instructions.specs.Registers.{AllBelow}
use Rattle.ick_runtime.specs.{Run.Stands, Steady.IsHome}

apart-prop : {P Q : Type 0} → IsProp P → IsProp Q → (P → Q → ⊥) → IsProp (P ⊎ Q)
apart-prop p q apart (inl a) (inl b) = ap inl (p a b)
apart-prop p q apart (inl a) (inr b) = absurd (apart a b)
apart-prop p q apart (inr a) (inl b) = absurd (apart b a)
apart-prop p q apart (inr a) (inr b) = ap inr (q a b)

homes-prop : (lowered : LoweredParts) (store_target : List ℕ) →
    IsProp ((k : ℕ) → k < lowered.layout.first → IsHome lowered store_target k)
homes-prop lowered store_target f g = fun_ext (λ k. fun_ext (λ low. apart-prop (hlevel props) (hlevel props)
    (λ same other. omega (arith, low, same, other.1)) (f k low) (g k low)))

below-prop : (bound : ℕ) (ns : List ℕ) → IsProp (AllBelow bound ns)
below-prop bound [] = hlevel props
below-prop bound (n ∷ ns) = let rest = below-prop bound ns in hlevel (props, rest)

stands-prop : (code : Code) (lowered : LoweredParts) (regs : List ℕ) (s : State) → IsProp (Stands code lowered regs s)
stands-prop code lowered regs s = hlevel (props, below-prop)

steady-prop : (code : Code) (lowered : LoweredParts) (v : View) → IsProp (IsSteady code lowered v)
steady-prop code lowered v = hlevel (props, homes-prop)

pub ready-prop : (code : Code) (lowered : LoweredParts) (v : View) → IsProp (IsReady code lowered v)
ready-prop code lowered v = hlevel (props, steady-prop, stands-prop)

pub ready_of : (code : Code) (lowered : LoweredParts) (v : View) {A : Type 0} → ∥ A ∥₁ → (A → IsReady code lowered v) →
    IsReady code lowered v
ready_of code lowered v h f = ∥∥₁_elim h (ready-prop code lowered v) f

state_set : IsSet State
state_set = hlevel props

pub state_of_both : (s t : State) {A : Type 0} → ∥ A ∥₁ → (A → s ≡ t) → s ≡ t
state_of_both s t h f = ∥∥₁_elim h (state_set s t) f
