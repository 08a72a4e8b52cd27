-- Proves laws of tallies.
use Rattle.std.proofs.Common.{◌≡◌, ℕ, ◌+◌, ◌*◌, Bool, true, false}
use Rattle.std.proofs.Common.{List, [], ◌∷◌, ◌++◌, Option, Some, None, refl, ap, sym, ◌∙◌, arith, append_assoc}
use Rattle.ick_explorer.specs.Order.{IsBelow}
use Rattle.ick_outcomes.specs.Tallies.{Tally, lesser, sooner, lead, none, join, after, push, pass}
use Rattle.ick_outcomes.specs.Weights.{part}

pub same_tally : {a b v w : ℕ} {c d : Option (List Bool)} → a ≡ b → v ≡ w → c ≡ d →
    (let x : Tally = record { count = a; weight = v; first = c } in x)
    ≡ (let y : Tally = record { count = b; weight = w; first = d } in y)
same_tally {a} {b} {v} {w} {c} {d} u x y =
    ap (λ n. record { count = n; weight = v; first = c }) u
    ∙ (ap (λ n. record { count = b; weight = n; first = c }) x
    ∙ ap (λ o. record { count = b; weight = w; first = o }) y)

pub lesser-self : (c : List Bool) → lesser c c ≡ c
lesser-self [] = refl
lesser-self (false ∷ c) = ap (λ d. false ∷ d) (lesser-self c)
lesser-self (true ∷ c) = ap (λ d. true ∷ d) (lesser-self c)

pub lesser-swap : (c d : List Bool) → lesser c d ≡ lesser d c
lesser-swap [] [] = refl
lesser-swap [] (y ∷ d) = refl
lesser-swap (x ∷ c) [] = refl
lesser-swap (false ∷ c) (false ∷ d) = ap (λ e. false ∷ e) (lesser-swap c d)
lesser-swap (false ∷ c) (true ∷ d) = refl
lesser-swap (true ∷ c) (false ∷ d) = refl
lesser-swap (true ∷ c) (true ∷ d) = ap (λ e. true ∷ e) (lesser-swap c d)

pub lesser-assoc : (c d e : List Bool) → lesser (lesser c d) e ≡ lesser c (lesser d e)
lesser-assoc [] d e = refl
lesser-assoc (x ∷ c) [] e = refl
lesser-assoc (false ∷ c) (false ∷ d) [] = refl
lesser-assoc (false ∷ c) (true ∷ d) [] = refl
lesser-assoc (true ∷ c) (false ∷ d) [] = refl
lesser-assoc (true ∷ c) (true ∷ d) [] = refl
lesser-assoc (false ∷ c) (false ∷ d) (false ∷ e) = ap (λ x. false ∷ x) (lesser-assoc c d e)
lesser-assoc (false ∷ c) (false ∷ d) (true ∷ e) = refl
lesser-assoc (false ∷ c) (true ∷ d) (false ∷ e) = refl
lesser-assoc (false ∷ c) (true ∷ d) (true ∷ e) = refl
lesser-assoc (true ∷ c) (false ∷ d) (false ∷ e) = refl
lesser-assoc (true ∷ c) (false ∷ d) (true ∷ e) = refl
lesser-assoc (true ∷ c) (true ∷ d) (false ∷ e) = refl
lesser-assoc (true ∷ c) (true ∷ d) (true ∷ e) = ap (λ x. true ∷ x) (lesser-assoc c d e)

lesser-lead : (w c d : List Bool) → lesser (w ++ c) (w ++ d) ≡ w ++ lesser c d
lesser-lead [] c d = refl
lesser-lead (false ∷ w) c d = ap (λ x. false ∷ x) (lesser-lead w c d)
lesser-lead (true ∷ w) c d = ap (λ x. true ∷ x) (lesser-lead w c d)

pub lesser-below : (v w c d : List Bool) → IsBelow v w → lesser (v ++ c) (w ++ d) ≡ v ++ c
lesser-below [] w c d h = absurd h
lesser-below (x ∷ v) [] c d h = absurd h
lesser-below (false ∷ v) (false ∷ w) c d h = ap (λ x. false ∷ x) (lesser-below v w c d h)
lesser-below (false ∷ v) (true ∷ w) c d h = refl
lesser-below (true ∷ v) (false ∷ w) c d h = absurd h
lesser-below (true ∷ v) (true ∷ w) c d h = ap (λ x. true ∷ x) (lesser-below v w c d h)

sooner-none : (a : Option (List Bool)) → sooner a None ≡ a
sooner-none None = refl
sooner-none (Some c) = refl

pub sooner-swap : (a b : Option (List Bool)) → sooner a b ≡ sooner b a
sooner-swap None None = refl
sooner-swap None (Some d) = refl
sooner-swap (Some c) None = refl
sooner-swap (Some c) (Some d) = ap (λ e. Some e) (lesser-swap c d)

pub sooner-assoc : (a b c : Option (List Bool)) → sooner (sooner a b) c ≡ sooner a (sooner b c)
sooner-assoc None b c = refl
sooner-assoc (Some x) None c = refl
sooner-assoc (Some x) (Some y) None = refl
sooner-assoc (Some x) (Some y) (Some z) = ap (λ e. Some e) (lesser-assoc x y z)

-- tallies are added in any order
pub join-none : (a : Tally) → join a none ≡ a
join-none a =
    let e : a.count + 0 ≡ a.count = omega arith in
    let f : a.weight + 0 ≡ a.weight = omega arith in
    same_tally e f (sooner-none a.first)

pub none-join : (a : Tally) → join none a ≡ a
none-join a =
    let e : 0 + a.count ≡ a.count = omega arith in
    let f : 0 + a.weight ≡ a.weight = omega arith in
    same_tally e f refl

pub join-swap : (a b : Tally) → join a b ≡ join b a
join-swap a b =
    let e : a.count + b.count ≡ b.count + a.count = omega arith in
    let f : a.weight + b.weight ≡ b.weight + a.weight = omega arith in
    same_tally e f (sooner-swap a.first b.first)

pub join-assoc : (a b c : Tally) → join (join a b) c ≡ join a (join b c)
join-assoc a b c =
    let e : a.count + b.count + c.count ≡ a.count + (b.count + c.count) = omega arith in
    let f : a.weight + b.weight + c.weight ≡ a.weight + (b.weight + c.weight) = omega arith in
    same_tally e f (sooner-assoc a.first b.first c.first)

-- b moves to the other side of a sum
pub join-over : (a b c : Tally) → join (join a b) c ≡ join (join a c) b
join-over a b c = join-assoc a b c ∙ (ap (join a) (join-swap b c) ∙ sym (join-assoc a c b))

lead-lead : (v w : List Bool) (a : Option (List Bool)) → lead v (lead w a) ≡ lead (v ++ w) a
lead-lead v w None = refl
lead-lead v w (Some c) = ap (λ d. Some d) (sym (append_assoc v w c))

lead-sooner : (w : List Bool) (a b : Option (List Bool)) → lead w (sooner a b) ≡ sooner (lead w a) (lead w b)
lead-sooner w None b = refl
lead-sooner w (Some c) None = refl
lead-sooner w (Some c) (Some d) = ap (λ e. Some e) (sym (lesser-lead w c d))

lead-below : (v w : List Bool) (a : Option (List Bool)) → IsBelow v w → sooner (lead v a) (lead w a) ≡ lead v a
lead-below v w None h = refl
lead-below v w (Some c) h = ap (λ d. Some d) (lesser-below v w c c h)

pub after-join : (k v : ℕ) (w : List Bool) (a b : Tally) →
    after k v w (join a b) ≡ join (after k v w a) (after k v w b)
after-join k v w a b =
    let e : k * (a.count + b.count) ≡ k * a.count + k * b.count = grind arith in
    let f : v * (a.weight + b.weight) ≡ v * a.weight + v * b.weight = grind arith in
    same_tally e f (lead-sooner w a.first b.first)

pub after-push : (k v : ℕ) (w : List Bool) (chance : ℕ) (b : Bool) (a : Tally) →
    after k v w (push chance b a) ≡ after k (part chance b * v) (w ++ b ∷ []) a
after-push k v w chance b a =
    let p = part chance b in
    let f : v * (p * a.weight) ≡ p * v * a.weight = grind arith in
    same_tally refl f (lead-lead w (b ∷ []) a.first)

-- a step without a choice
pub after-pass : (k v : ℕ) (w : List Bool) (a : Tally) → after k v w (pass a) ≡ after k (v * 100) w a
after-pass k v w a =
    let f : v * (100 * a.weight) ≡ v * 100 * a.weight = grind arith in
    same_tally refl f refl

-- a choice: the runs behind w are those behind w and 0, and those behind w and 1
pub after-choice : (k v : ℕ) (w : List Bool) (chance : ℕ) (a b : Tally) →
    after k v w (join (push chance false a) (push chance true b))
    ≡ join (after k (part chance false * v) (w ++ false ∷ []) a) (after k (part chance true * v) (w ++ true ∷ []) b)
after-choice k v w chance a b =
    after-join k v w (push chance false a) (push chance true b)
    ∙ (ap (λ x. join x (after k v w (push chance true b))) (after-push k v w chance false a)
    ∙ ap (join (after k (part chance false * v) (w ++ false ∷ []) a)) (after-push k v w chance true b))

-- a merge: if v is below w, the runs behind v and those behind w are the same runs behind v, for both
pub after-merge : (k l x y : ℕ) (v w : List Bool) (a : Tally) → IsBelow v w →
    join (after k x v a) (after l y w a) ≡ after (k + l) (x + y) v a
after-merge k l x y v w a h =
    let e : k * a.count + l * a.count ≡ (k + l) * a.count = grind arith in
    let f : x * a.weight + y * a.weight ≡ (x + y) * a.weight = grind arith in
    same_tally e f (lead-below v w a.first h)

pub after-none : (k v : ℕ) (w : List Bool) → after k v w none ≡ none
after-none k v w =
    let e : k * 0 ≡ 0 = grind arith in
    let f : v * 0 ≡ 0 = grind arith in
    same_tally e f refl
