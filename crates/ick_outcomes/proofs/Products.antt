-- Proves that the weight of a run is the product of the parts over its choices, over a power of 100.
use Prim.Native.Nat.{zero, suc}
use Rattle.std.proofs.Common.{◌≡◌, ℕ, ◌*◌, ◌^◌, Bool, false, List, [], ◌∷◌, length, refl, ap, sym, ◌∙◌, subst, arith}
use Rattle.std.proofs.Math.Nat.{pow-succ'}
use Rattle.ick_code.specs.meaning.State.{State}
use Rattle.ick_code.specs.meaning.Move.{Asking, plain, choice, ended}
use Rattle.ick_outcomes.specs.Programs.{ask, advance, Program, run, IsWhole}
use Rattle.ick_backtrack.specs.Asked.{Finish, finished, at_limit}
use Rattle.ick_explorer.specs.Runs.{ends, stays, IsEnd}
use Rattle.ick_outcomes.proofs.ProgramRuns.{limit-going, run-ended, run-plain, run-choice, run-wants, whole-along}
use Rattle.ick_outcomes.specs.Weights.{part, share, product, product_on}
use Rattle.ick_outcomes.proofs.TallyRuns.{share-ended, share-plain, share-choice}

product-ended : (p : Program) (s : State) (l : ℕ) (c : List Bool) (e : _) → ask p s ≡ ended e → product p s l c ≡ 1
unfolding product
product-ended p s zero c e h = refl
product-ended p s (suc l) c e h = ap (λ a. product_on a c (λ b rest. product p (advance p s b) l rest)) h

product-plain : (p : Program) (s : State) (l : ℕ) (c : List Bool) → ask p s ≡ plain →
    product p s (suc l) c ≡ product p (advance p s false) l c
unfolding product
product-plain p s l c h = ap (λ a. product_on a c (λ b rest. product p (advance p s b) l rest)) h

product-choice : (p : Program) (s : State) (l k : ℕ) (b : Bool) (c : List Bool) → ask p s ≡ choice k →
    product p s (suc l) (b ∷ c) ≡ part k b * product p (advance p s b) l c
unfolding product
product-choice p s l k b c h = ap (λ a. product_on a (b ∷ c) (λ b rest. product p (advance p s b) l rest)) h

unused-here : (p : Program) (s : State) (l : ℕ) (c : List Bool) (f : Finish) → run p s l c ≡ stays s (ends f) c →
    IsWhole p s l c → c ≡ []
unused-here p s l c f e w = sym (ap (λ r. r.unused) e) ∙ w.all_used

ended-is : (p : Program) (s : State) (l : ℕ) (c : List Bool) (e : _) → ask p s ≡ ended e → IsWhole p s l c →
    share p s l c * 100 ^ length c ≡ product p s l c * 100 ^ l
ended-is p s l c e h w =
    let n : c ≡ [] = unused-here p s l c (finished e) (run-ended p s l c e h) w in
    let x : 100 ^ l * 1 ≡ 1 * 100 ^ l = omega arith in
    ap (λ z. z * 100 ^ length c) (share-ended p s l c e h)
    ∙ (ap (λ z. 100 ^ l * 100 ^ length z) n ∙ (x ∙ ap (λ z. z * 100 ^ l) (sym (product-ended p s l c e h))))

at-limit : (p : Program) (s : State) (c : List Bool) → c ≡ [] →
    share p s 0 c * 100 ^ length c ≡ product p s 0 c * 100 ^ 0
unfolding share product
at-limit p s c n = ap (λ z. 1 * 100 ^ length z) n

pub share-is : (p : Program) (s : State) (l : ℕ) (c : List Bool) → IsWhole p s l c →
    share p s l c * 100 ^ length c ≡ product p s l c * 100 ^ l
share-is p s zero c w = by_asking (ask p s) refl
  where
    by_asking : (a : Asking) → ask p s ≡ a → share p s 0 c * 100 ^ length c ≡ product p s 0 c * 100 ^ 0
    by_asking (ended e) h = ended-is p s 0 c e h w
    by_asking plain h =
        at-limit p s c (unused-here p s 0 c at_limit (limit-going p s c plain h tt) w)
    by_asking (choice k) h =
        at-limit p s c (unused-here p s 0 c at_limit (limit-going p s c (choice k) h tt) w)
share-is p s (suc l) c w = by_asking (ask p s) refl (λ d b v. share-is p (advance p s b) l d v)
  where
    by_asking : (a : Asking) → ask p s ≡ a →
        ((d : List Bool) (b : Bool) → IsWhole p (advance p s b) l d →
        share p (advance p s b) l d * 100 ^ length d ≡ product p (advance p s b) l d * 100 ^ l) →
        share p s (suc l) c * 100 ^ length c ≡ product p s (suc l) c * 100 ^ suc l
    by_asking (ended e) h ih = ended-is p s (suc l) c e h w
    by_asking plain h ih =
        let x = share p (advance p s false) l c in
        let y = product p (advance p s false) l c in
        let v = 100 ^ length c in
        let i = ih c false (whole-along (run-plain p s l c h) w) in
        let e : 100 * x * v ≡ 100 * (x * v) = grind arith in
        let f : 100 * (y * 100 ^ l) ≡ y * (100 * 100 ^ l) = grind arith in
        ap (λ z. z * v) (share-plain p s l c h)
        ∙ (e ∙ (ap (λ z. 100 * z) i ∙ (f ∙ (ap (λ z. y * z) (sym (pow-succ' 100 l))
        ∙ ap (λ z. z * 100 ^ suc l) (sym (product-plain p s l c h))))))
    by_asking (choice k) h ih = by_list c w
      where
        by_list : (d : List Bool) → IsWhole p s (suc l) d →
            share p s (suc l) d * 100 ^ length d ≡ product p s (suc l) d * 100 ^ suc l
        by_list [] u = absurd (subst (λ r. IsEnd r.stop) (run-wants p s l k h) u.at_end)
        by_list (b ∷ d) u =
            let n = part k b in
            let x = share p (advance p s b) l d in
            let y = product p (advance p s b) l d in
            let v = 100 ^ length d in
            let i = ih d b (whole-along (run-choice p s l k b d h) u) in
            let e : n * x * (100 * v) ≡ 100 * n * (x * v) = grind arith in
            let f : 100 * n * (y * 100 ^ l) ≡ n * y * (100 * 100 ^ l) = grind arith in
            ap (λ z. z * 100 ^ length (b ∷ d)) (share-choice p s l k b d h)
            ∙ (ap (λ z. n * x * z) (pow-succ' 100 (length d))
            ∙ (e ∙ (ap (λ z. 100 * n * z) i ∙ (f ∙ (ap (λ z. n * y * z) (sym (pow-succ' 100 l))
            ∙ ap (λ z. z * 100 ^ suc l) (sym (product-choice p s l k b d h)))))))
