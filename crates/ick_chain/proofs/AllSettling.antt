-- Proves that summaries have the rows of lines alone if all runs end.
use Prim.Native.Nat.{zero, suc}
use Rattle.std.proofs.Common.{◌≡◌, inl, inr, ℕ, ◌+◌, ◌*◌, ◌-◌, ◌^◌, ◌<◌, ◌≤◌, Bool, true, false, List, [], ◌∷◌}
use Rattle.std.proofs.Common.{length, map, refl, ap, sym, ◌∙◌, subst, arith}
use Rattle.std.specs.List.{Contains}
use Rattle.std.proofs.Math.Nat.{le_of_mul-le-mul_right}
use Rattle.std.proofs.lemmas.Nat.{pow-add}
use Rattle.ick_code.specs.meaning.State.{State, Ending}
use Rattle.ick_code.specs.meaning.Move.{Asking, plain, choice, ended}
use Rattle.ick_outcomes.specs.Programs.{ask, advance, Program, run, IsWhole}
use Rattle.ick_outcomes.proofs.ProgramRuns.{chance_between, end_is, run-plain, run-choice, run-wants, whole-along}
use Rattle.ick_backtrack.specs.Asked.{finished, at_limit}
use Rattle.ick_explorer.specs.Lines.{end_text}
use Rattle.ick_explorer.specs.Order.{IsBelow, IsIncreasing}
use Rattle.ick_explorer.specs.Runs.{Stop, ends, wants, Execution, IsEnd}
use Rattle.ick_explorer.proofs.ListingLaws.{below_one_way, contains-cases, contains-head, contains-nil, contains-tail}
use Rattle.ick_explorer.proofs.ListingLaws.{lists_unique, not_below_itself}
use Rattle.ick_outcomes.specs.Summaries.{AreRunsOf, HasOutcome as Has, IsRow, IsSummary, Row as Listed}
use Rattle.ick_outcomes.specs.Tallies.{Test as OutcomeTest, Passes, stop_text, tally}
use Rattle.ick_outcomes.specs.Weights.{part, share, shares, whole}
use Rattle.ick_outcomes.proofs.Ends.{first-has, test_for, test-self, test-output, test-end}
use Rattle.ick_outcomes.proofs.TallyRuns.{share-choice, share-ended, share-plain, tallied}
use Rattle.ick_chain.specs.Chains.{IsExact, negate}
use Rattle.ick_chain.specs.ExactListings.{Line, AreLines, HasRuns, IsLine, IsRun}
use Rattle.ick_chain.specs.FirstRuns.{IsFirst}
use Rattle.ick_chain.specs.Limits.{Test, any, all_if, ended_now, ended_on, ended_weight, going_weight}
use Rattle.ick_chain.specs.Rows.{Row, AreRows, weight_of}
use Rattle.ick_chain.specs.Settled.{AreAllSettled, AreSettled, IsFinite, IsOfLine, IsSettled}
use Rattle.ick_chain.specs.Shown.{HasOutcome}
use Rattle.ick_chain.specs.Tallied.{by_end, of_states, IsOfEnded, IsOfLimit}
use Rattle.ick_chain.proofs.FewestLaws.{not-limit}
use Rattle.ick_chain.proofs.GreaterLimits.{kept}
use Rattle.ick_chain.proofs.LimitLaws.{ended-zero, ended-suc, hundred, whole as all_go_or_end}
use Rattle.ick_chain.specs.RowLimits.{listed}
use Rattle.ick_chain.proofs.RowLimits.{are_near, false-of, is-test, of-ended}
use Rattle.ick_chain.proofs.Settling.{row_settled}
use Rattle.ick_chain.proofs.TallyLaws.{tallied as weights_tallied}

-- products and powers of positive numbers
mul-some : (a b : ℕ) → 0 < a → 0 < b → 0 < a * b
mul-some zero b h k = absurd (let z : ⊥ = omega (arith, h) in z)
mul-some (suc a) b h k = let e : suc a * b ≡ b + a * b = grind arith in omega (arith, e, k)

some-left : (a b : ℕ) → 0 < a * b → 0 < a
some-left zero b h = let e : 0 * b ≡ 0 = grind arith in omega (arith, e, h)
some-left (suc a) b h = omega arith

pow-some : (l : ℕ) → 0 < 100 ^ l
pow-some zero = omega arith
pow-some (suc l) = let i = pow-some l in let e = hundred l in omega (arith, i, e)

-- a whole run weighs something
share-some : (p : Program) (l : ℕ) (s : State) (c : List Bool) → IsWhole p s l c → 0 < share p s l c
unfolding share
share-some p zero s c w = omega arith
share-some p (suc l) s c w = by_asking (ask p s) refl c w (λ b d v. share-some p l (advance p s b) d v)
  where
    by_asking : (a : Asking) → ask p s ≡ a → (c : List Bool) → IsWhole p s (suc l) c →
        ((b : Bool) (d : List Bool) → IsWhole p (advance p s b) l d → 0 < share p (advance p s b) l d) →
        0 < share p s (suc l) c
    by_asking (ended x) g c w ih = subst (λ n. 0 < n) (sym (share-ended p s (suc l) c x g)) (pow-some (suc l))
    by_asking plain g c w ih =
        let e = share-plain p s l c g in
        let i = ih false c (whole-along (run-plain p s l c g) w) in
        subst (λ n. 0 < n) (sym e) (omega (arith, i))
    by_asking (choice k) g [] w ih =
        absurd (subst (λ (r : Execution). IsEnd r.stop) (run-wants p s l k g) w.at_end)
    by_asking (choice k) g (b ∷ c) w ih =
        let i = ih b c (whole-along (run-choice p s l k b c g) w) in
        subst (λ n. 0 < n) (sym (share-choice p s l k b c g))
        (mul-some (part k b) (share p (advance p s b) l c) (by_choice b (chance_between p s k g)) i)
      where
        by_choice : (b : Bool) → (0 < k) × (k < 100) → 0 < part k b
        by_choice true h = h.0
        by_choice false h = let x = h.1 in omega (arith, x)

shares-some : (p : Program) (s : State) (l : ℕ) (cs : List (List Bool)) (c : List Bool) → Contains cs c →
    IsWhole p s l c → 0 < shares p s l cs
shares-some p s l [] c m w = absurd (contains-nil c m)
shares-some p s l (d ∷ cs) c m w = elim (contains-cases d c cs m) [
  | inl e ↦
      let i : 0 < share p s l d = subst (λ z. 0 < share p s l z) (sym e) (share-some p l s c w) in omega (arith, i)
  | inr n ↦ let i = shares-some p s l cs c n w in omega (arith, i)
]

tally-some : (p : Program) (s : State) (l : ℕ) (q : OutcomeTest) (c : List Bool) → Passes p s l q c →
    0 < (tally p s l q).weight
tally-some p s l q c h =
    let u = tallied p s l q in
    subst (λ n. 0 < n) (sym u.1.weighed) (shares-some p s l u.0 c (u.1.complete c h) h.whole)

-- a run that passes a test of ended runs has ended
ended-of : (p : Program) (s : State) (l : ℕ) (q : OutcomeTest) (c : List Bool) → IsOfEnded q → Passes p s l q c →
    (e : Ending) × ((run p s l c).stop ≡ ends (finished e))
ended-of p s l q c k h = by_stop (run p s l c).stop refl
  where
    by_stop : (t : Stop) → (run p s l c).stop ≡ t → (e : Ending) × ((run p s l c).stop ≡ ends (finished e))
    by_stop wants e = absurd (subst IsEnd e h.whole.at_end)
    by_stop (ends (finished x)) e = (x, e)
    by_stop (ends at_limit) e =
        let z : false ≡ true =
        sym (k.limit (run p s l c).last.output)
        ∙ (ap (λ t. q (run p s l c).last.output (stop_text t)) (sym e) ∙ h.passed) in cc

passes-on : (p : Program) (s : State) (l k m : ℕ) (q : OutcomeTest) (c : List Bool) → IsOfEnded q → m ≡ l + k →
    Passes p s l q c → Passes p s m q c
passes-on p s l k m q c of eq h =
    let e = ended-of p s l q c of h in
    let same = (kept p l k m s c e.0 eq e.1).same in
    record {
      whole = record {
        at_end = subst (λ (x : Execution). IsEnd x.stop) (sym same) h.whole.at_end;
        all_used = ap (λ (x : Execution). x.unused) same ∙ h.whole.all_used;
      };
      passed = ap (λ (x : Execution). q x.last.output (stop_text x.stop)) same ∙ h.passed;
    }

-- an increasing list within another that is as long is the other
sub-tail : (x y : List Bool) (xs ys : List (List Bool)) → IsIncreasing (x ∷ xs) → IsIncreasing (y ∷ ys) →
    Contains ys x → ((c : List Bool) → Contains (x ∷ xs) c → Contains (y ∷ ys) c) →
    (c : List Bool) → Contains (x ∷ xs) c → Contains ys c
sub-tail x y xs ys u v m f c n = elim (contains-cases y c ys (f c n)) [
  | inr k ↦ k
  | inl e ↦ elim (contains-cases x c xs n) [
    | inl i ↦ subst (Contains ys) i m
    | inr i ↦
        let a : IsBelow y x = v.0 x m in
        let b : IsBelow x y = subst (IsBelow x) (sym e) (u.0 c i) in
        absurd (below_one_way x y b a)
  ]
]

sub-same : (x : List Bool) (xs ys : List (List Bool)) → IsIncreasing (x ∷ xs) → IsIncreasing (x ∷ ys) →
    ((c : List Bool) → Contains (x ∷ xs) c → Contains (x ∷ ys) c) → (c : List Bool) → Contains xs c → Contains ys c
sub-same x xs ys u v f c n = elim (contains-cases x c ys (f c (contains-tail x c xs n))) [
  | inr k ↦ k
  | inl e ↦ absurd (not_below_itself x (subst (IsBelow x) (sym e) (u.0 c n)))
]

sub-long : (ys xs : List (List Bool)) → IsIncreasing xs → IsIncreasing ys →
    ((c : List Bool) → Contains xs c → Contains ys c) → length xs ≤ length ys
sub-long ys [] u v f = omega arith
sub-long [] (x ∷ xs) u v f = absurd (contains-nil x (f x (contains-head x xs)))
sub-long (y ∷ ys) (x ∷ xs) u v f = elim (contains-cases y x ys (f x (contains-head x xs))) [
  | inl e ↦
      let i = sub-long ys xs u.1 v.1 (sub-same x xs ys u (subst (λ z. IsIncreasing (z ∷ ys)) e v)
      (λ c n. subst (λ z. Contains (z ∷ ys) c) e (f c n))) in
      omega (arith, i)
  | inr m ↦ let i = sub-long ys (x ∷ xs) u v.1 (sub-tail x y xs ys u v m f) in omega (arith, i)
]

sub-all : (ys xs : List (List Bool)) → IsIncreasing xs → IsIncreasing ys →
    ((c : List Bool) → Contains xs c → Contains ys c) → length xs ≡ length ys → xs ≡ ys
sub-all [] [] u v f h = refl
sub-all [] (x ∷ xs) u v f h = absurd (contains-nil x (f x (contains-head x xs)))
sub-all (y ∷ ys) [] u v f h = absurd (let z : ⊥ = omega (arith, h) in z)
sub-all (y ∷ ys) (x ∷ xs) u v f h = elim (contains-cases y x ys (f x (contains-head x xs))) [
  | inl e ↦
      let i = sub-all ys xs u.1 v.1 (sub-same x xs ys u (subst (λ z. IsIncreasing (z ∷ ys)) e v)
      (λ c n. subst (λ z. Contains (z ∷ ys) c) e (f c n))) (omega (arith, h)) in
      ap (λ z. x ∷ z) i ∙ ap (λ z. z ∷ ys) (sym e)
  | inr m ↦
      let i = sub-long ys (x ∷ xs) u v.1 (sub-tail x y xs ys u v m f) in
      absurd (let z : ⊥ = omega (arith, i, h) in z)
]

-- if as many runs pass under a greater limit, they are the same
passes-back : (p : Program) (s : State) (l k m : ℕ) (q : OutcomeTest) (c : List Bool) → IsOfEnded q → m ≡ l + k →
    (tally p s l q).count ≡ (tally p s m q).count → Passes p s m q c → Passes p s l q c
passes-back p s l k m q c of eq same h =
    let u = tallied p s l q in
    let v = tallied p s m q in
    let e : u.0 ≡ v.0 = sub-all v.0 u.0 u.1.increasing v.1.increasing
    (λ d n. v.1.complete d (passes-on p s l k m q d of eq (u.1.sound d n)))
    (sym u.1.counted ∙ (same ∙ v.1.counted)) in
    u.1.sound c (subst (λ z. Contains z c) (sym e) (v.1.complete c h))

-- a row that passes
passing-row : (q : OutcomeTest) (rs : List Row) → 0 < weight_of q rs →
    (x : Row) × Contains rs x × (q x.output x.end ≡ true)
passing-row q [] h = absurd (let z : ⊥ = omega (arith, h) in z)
passing-row q (r ∷ rs) h = by_test (q r.output r.end) refl h (passing-row q rs)
  where
    by_test : (b : Bool) → q r.output r.end ≡ b → 0 < all_if (q r.output r.end) r.weight + weight_of q rs →
        (0 < weight_of q rs → (x : Row) × Contains rs x × (q x.output x.end ≡ true)) →
        (x : Row) × Contains (r ∷ rs) x × (q x.output x.end ≡ true)
    by_test true e h ih = (r, contains-head r rs, e)
    by_test false e h ih =
        let n : all_if (q r.output r.end) r.weight ≡ 0 = ap (λ b. all_if b r.weight) e in
        let i = ih (omega (arith, h, n)) in
        (i.0, contains-tail r i.0 rs i.1, i.2)

-- the outcome of a run that has ended has a row
row-of : (p : Program) (s : State) (parts never steps : ℕ) (weight : Test → ℕ) (rs : List Row) (l : ℕ)
    (c : List Bool) → IsExact p s parts weight never steps → AreRows weight rs → IsWhole p s l c →
    (stop_text (run p s l c).stop ≡ end_text at_limit → ⊥) →
    (x : Row) × Contains rs x × ((run p s l c).last.output ≡ x.output) × (stop_text (run p s l c).stop ≡ x.end)
row-of p s parts never steps weight rs l c exact rows w f =
    let o = (run p s l c).last.output in
    let e = stop_text (run p s l c).stop in
    let q = test_for o e in
    let some = tally-some p s l q c (record { whole = w; passed = test-self o e }) in
    let is = (weights_tallied p s l).ended q (of-ended o e f) in
    let v = ended_weight p (of_states q) s l in
    let some' : 0 < v = subst (λ n. 0 < n) is some in
    let product = mul-some parts v exact.some some' in
    let below = exact.ends (of_states q) l in
    let heavy : 0 < weight (of_states q) = some-left (weight (of_states q)) (100 ^ l) (omega (arith, product, below)) in
    let x = passing-row q rs (subst (λ n. 0 < n) (rows.whole q) heavy) in
    (x.0, x.1, test-output o e x.0.output x.0.end x.2, test-end o e x.0.output x.0.end x.2)

-- the tests of runs at the limit, and of runs that have ended
abbrev limit-test : OutcomeTest
limit-test = λ output end. test_for [] (end_text at_limit) [] end

abbrev ended-test : OutcomeTest
ended-test = λ output end. negate (limit-test output end)

over : (e : Ending) → test_for [] (end_text at_limit) [] (end_text (finished e)) ≡ false
over e = false-of (test_for [] (end_text at_limit) [] (end_text (finished e)))
    (λ h. not-limit e (sym (test-end [] (end_text at_limit) [] (end_text (finished e)) h)))

is-of-limit : IsOfLimit limit-test
is-of-limit = record { limit = λ o. test-self [] (end_text at_limit); over = λ o e. over e }

is-of-ended : IsOfEnded ended-test
is-of-ended = record { limit = λ o. ap negate (test-self [] (end_text at_limit)) }

ended-passes : (p : Program) (s : State) (e : Ending) → ask p s ≡ ended e → of_states ended-test s ≡ true
ended-passes p s e h = ap (λ o. by_end ended-test s.output o) (end_is p s e h) ∙ ap negate (over e)

any-now : (p : Program) (s : State) (a : Asking) → ask p s ≡ a →
    ended_now (of_states ended-test) a s ≡ ended_now any a s
any-now p s (ended e) h = ap (λ b. all_if b 1) (ended-passes p s e h)
any-now p s plain h = refl
any-now p s (choice c) h = refl

any-on : (p : Program) (s : State) (a : Asking) → ask p s ≡ a → (l : ℕ) (r t : Bool → ℕ) → ((b : Bool) → r b ≡ t b) →
    ended_on (of_states ended-test) a s l r ≡ ended_on any a s l t
any-on p s (ended e) h l r t f = ap (λ b. all_if b (100 ^ suc l)) (ended-passes p s e h)
any-on p s plain h l r t f = ap (λ n. 100 * n) (f false)
any-on p s (choice c) h l r t f =
    ap (λ n. part c false * n + part c true * r true) (f false)
    ∙ ap (λ n. part c false * t false + part c true * n) (f true)

ended-any : (p : Program) (s : State) (l : ℕ) → ended_weight p (of_states ended-test) s l ≡ ended_weight p any s l
ended-any p s zero =
    ended-zero p (of_states ended-test) s (ask p s) refl
    ∙ (any-now p s (ask p s) refl ∙ sym (ended-zero p any s (ask p s) refl))
ended-any p s (suc l) =
    ended-suc p (of_states ended-test) s l (ask p s) refl
    ∙ (any-on p s (ask p s) refl l (λ b. ended_weight p (of_states ended-test) (advance p s b) l)
    (λ b. ended_weight p any (advance p s b) l) (λ b. ended-any p (advance p s b) l)
    ∙ sym (ended-suc p any s l (ask p s) refl))

-- runs that have ended keep their weight
shares-on : (p : Program) (s : State) (l k m : ℕ) (cs : List (List Bool)) → m ≡ l + k →
    ((c : List Bool) → Contains cs c → (e : Ending) × ((run p s l c).stop ≡ ends (finished e))) →
    shares p s m cs ≡ shares p s l cs * 100 ^ k
shares-on p s l k m [] eq f = let e : 0 ≡ 0 * 100 ^ k = grind arith in e
shares-on p s l k m (c ∷ cs) eq f =
    let e = f c (contains-head c cs) in
    let a = (kept p l k m s c e.0 eq e.1).weighs in
    let b = shares-on p s l k m cs eq (λ d n. f d (contains-tail c d cs n)) in
    let x = share p s l c in
    let y = shares p s l cs in
    let t = 100 ^ k in
    let i : x * t + y * t ≡ (x + y) * t = grind arith in
    ap (λ n. n + shares p s m cs) a ∙ (ap (λ n. x * t + n) b ∙ i)

-- if no run ends behind a limit, what has ended keeps its weight
ended-on : (p : Program) (s : State) (l k m : ℕ) → m ≡ l + k →
    ((c : List Bool) → Passes p s m ended-test c → Passes p s l ended-test c) →
    ended_weight p any s m ≡ ended_weight p any s l * 100 ^ k
ended-on p s l k m eq f =
    let u = tallied p s l ended-test in
    let v = tallied p s m ended-test in
    let e : v.0 ≡ u.0 = lists_unique v.0 u.0 v.1.increasing u.1.increasing
    (λ c n. u.1.complete c (f c (v.1.sound c n)))
    (λ c n. v.1.complete c (passes-on p s l k m ended-test c is-of-ended eq (u.1.sound c n))) in
    let a = (weights_tallied p s m).ended ended-test is-of-ended in
    let b = (weights_tallied p s l).ended ended-test is-of-ended in
    let w = shares-on p s l k m u.0 eq (λ c n. ended-of p s l ended-test c is-of-ended (u.1.sound c n)) in
    sym (ended-any p s m)
    ∙ (sym a ∙ (v.1.weighed ∙ (ap (shares p s m) e
    ∙ (w ∙ (ap (λ n. n * 100 ^ k) (sym u.1.weighed) ∙ ap (λ n. n * 100 ^ k) (b ∙ ended-any p s l))))))

-- what goes on then weighs nothing, if no run never ends
none-goes : (parts steps x g y h t n l k m : ℕ) → 0 < parts → x + g ≡ t → y + h ≡ t * n → y ≡ x * n → m ≡ l + k →
    0 < n → steps * t < k → 100 * (m * (parts * h)) ≤ steps * (t * n) → g ≡ 0
none-goes parts steps x zero y h t n l k m some a b c eq pos great soon = refl
none-goes parts steps x (suc g) y h t n l k m some a b c eq pos great soon =
    let d : t * n ≡ x * n + suc g * n = ap (λ z. z * n) (sym a) ∙ (let i : (x + suc g) * n ≡ x * n + suc g * n = grind arith in i) in
    let is : h ≡ suc g * n = omega (arith, b, c, d) in
    let e : 100 * (m * (parts * h)) ≡ (100 * m * (parts * suc g)) * n =
    ap (λ z. 100 * (m * (parts * z))) is
    ∙ (let i : 100 * (m * (parts * (suc g * n))) ≡ (100 * m * (parts * suc g)) * n = grind arith in i) in
    let f : steps * (t * n) ≡ steps * t * n = grind arith in
    let le = le_of_mul-le-mul_right {m = 100 * m * (parts * suc g)} {n = steps * t} {k = n} (omega (arith, soon, e, f)) pos in
    let one = mul-some parts (suc g) some (omega arith) in
    let big = at-least (100 * m) (parts * suc g) one in
    absurd (let z : ⊥ = omega (arith, le, big, great, eq) in z)
  where
    at-least : (a b : ℕ) → 0 < b → a ≤ a * b
    at-least a zero h = absurd (let z : ⊥ = omega (arith, h) in z)
    at-least a (suc b) h = let e : a * suc b ≡ a + a * b = grind arith in omega (arith, e)

-- a number that is pinned from both sides under each greater limit
pinned-by : (b a t n steps m : ℕ) → b ≤ a → 0 < n → steps * t < m →
    100 * (m * (a * n)) ≤ 100 * (m * (b * n)) + steps * (t * n) → b ≡ a
pinned-by b a t n steps m le pos great near =
    let d : 100 * (m * (a * n)) ≡ (100 * (m * a)) * n = grind arith in
    let e : 100 * (m * (b * n)) + steps * (t * n) ≡ (100 * (m * b) + steps * t) * n = grind arith in
    let f = le_of_mul-le-mul_right {m = 100 * (m * a)} {n = 100 * (m * b) + steps * t} {k = n}
    (omega (arith, near, d, e)) pos in
    by_rest (a - b) (omega (arith, le)) f
  where
    by_rest : (r : ℕ) → a ≡ b + r → 100 * (m * a) ≤ 100 * (m * b) + steps * t → b ≡ a
    by_rest zero h f = omega (arith, h)
    by_rest (suc r) h f =
        let i : m * a ≡ m * b + m + m * r =
        ap (λ z. m * z) h ∙ (let j : m * (b + suc r) ≡ m * b + m + m * r = grind arith in j) in
        absurd (let z : ⊥ = omega (arith, f, i, great) in z)

cancel : (a b n : ℕ) → 0 < n → a * n ≡ b * n → a ≡ b
cancel a b n pos e =
    let x = le_of_mul-le-mul_right {m = a} {n = b} {k = n} (omega (arith, e)) pos in
    let y = le_of_mul-le-mul_right {m = b} {n = a} {k = n} (omega (arith, e)) pos in
    omega (arith, x, y)

-- a row of a summary has the weight of the row of an exact answer, if no further run has its outcome
module _ (p : Program) (s : State) (parts never steps : ℕ) (weight : Test → ℕ) (rs : List Row)
    (exact : IsExact p s parts weight never steps) (rows : AreRows weight rs) (x : Row) (in_rows : Contains rs x)
    (not_limit : x.end ≡ end_text at_limit → ⊥) (limit : ℕ)
    (counts : (m : ℕ) → limit ≤ m →
    (tally p s limit (test_for x.output x.end)).count ≡ (tally p s m (test_for x.output x.end)).count)
    (cs : List (List Bool)) (are : AreRunsOf p s limit (listed x) cs) where
  passing : (m : ℕ) (c : List Bool) → Has p s m (listed x) c → Passes p s m (test_for x.output x.end) c
  passing m c o = record {
    whole = o.whole;
    passed = ap (λ z. test_for x.output x.end z (stop_text (run p s m c).stop)) o.same_output
        ∙ (ap (λ z. test_for x.output x.end x.output z) o.same_end ∙ test-self x.output x.end);
  }

  having : (m : ℕ) (c : List Bool) → Passes p s m (test_for x.output x.end) c → Has p s m (listed x) c
  having m c o = record {
    whole = o.whole;
    same_output = sym (test-output x.output x.end _ _ o.passed);
    same_end = sym (test-end x.output x.end _ _ o.passed);
  }

  runs-on : (k m : ℕ) → m ≡ limit + k → AreRunsOf p s m (listed x) cs
  runs-on k m eq =
      let q = test_for x.output x.end in
      let of = of-ended x.output x.end not_limit in
      record {
        increasing = are.increasing;
        sound = λ c n. having m c (passes-on p s limit k m q c of eq (passing limit c (are.sound c n)));
        complete = λ c o. are.complete c (having limit c (passes-back p s limit k m q c of eq
            (counts m (omega (arith, eq))) (passing m c o)));
      }

  weight-is : parts * shares p s limit cs ≡ x.weight * 100 ^ limit
  weight-is =
      let t = 100 ^ limit in
      let k = steps * t + 1 in
      let m = limit + k in
      let n = 100 ^ k in
      let w = x.weight in
      let v = shares p s limit cs in
      let power : 100 ^ m ≡ t * n = pow-add 100 limit k in
      let near = (are_near p s parts weight never steps rs exact rows x in_rows not_limit m cs (runs-on k m refl)).near in
      let below = (are_near p s parts weight never steps rs exact rows x in_rows not_limit limit cs are).below in
      let of = of-ended x.output x.end not_limit in
      let kept : shares p s m cs ≡ v * n =
      shares-on p s limit k m cs refl
      (λ c i. ended-of p s limit (test_for x.output x.end) c of (passing limit c (are.sound c i))) in
      let a : 100 * (m * (w * 100 ^ m)) ≡ 100 * (m * ((w * t) * n)) =
      ap (λ z. 100 * (m * (w * z))) power ∙ (let i : 100 * (m * (w * (t * n))) ≡ 100 * (m * ((w * t) * n)) = grind arith in i) in
      let b : 100 * (m * (parts * shares p s m cs)) ≡ 100 * (m * ((parts * v) * n)) =
      ap (λ z. 100 * (m * (parts * z))) kept
      ∙ (let i : 100 * (m * (parts * (v * n))) ≡ 100 * (m * ((parts * v) * n)) = grind arith in i) in
      let e : steps * 100 ^ m ≡ steps * (t * n) = ap (λ z. steps * z) power in
      pinned-by (parts * v) (w * t) t n steps m below (pow-some k) (omega arith) (omega (arith, near, a, b, e))

row-weight : (p : Program) (s : State) (parts never steps : ℕ) (weight : Test → ℕ) (rs : List Row) →
    IsExact p s parts weight never steps → AreRows weight rs → (x : Row) → Contains rs x →
    (x.end ≡ end_text at_limit → ⊥) → (limit : ℕ) → ((m : ℕ) → limit ≤ m →
    (tally p s limit (test_for x.output x.end)).count ≡ (tally p s m (test_for x.output x.end)).count) →
    (r : Listed) → IsRow p s limit r → r.output ≡ x.output → r.end ≡ x.end → parts * r.weight ≡ whole * x.weight
row-weight p s parts never steps weight rs exact rows x m not_limit limit counts r row a b =
    let cs = r.first ∷ row.others in
    let t = 100 ^ limit in
    let v = shares p s limit cs in
    let is : AreRunsOf p s limit (listed x) cs = record {
      increasing = row.runs.increasing;
      sound = λ c n. let o = row.runs.sound c n in
          record { whole = o.whole; same_output = o.same_output ∙ a; same_end = o.same_end ∙ b };
      complete = λ c o. row.runs.complete c
          (record { whole = o.whole; same_output = o.same_output ∙ sym a; same_end = o.same_end ∙ sym b });
    } in
    let i = weight-is p s parts never steps weight rs exact rows x m not_limit limit counts cs is in
    cancel (parts * r.weight) (whole * x.weight) t (pow-some limit)
    (by_numbers whole r.weight x.weight v t row.weighed i)
  where
    by_numbers : (w y z v t : ℕ) → y * t ≡ w * v → parts * v ≡ z * t → parts * y * t ≡ w * z * t
    by_numbers w y z v t e f =
        let g : parts * y * t ≡ parts * (y * t) = grind arith in
        let h : parts * (w * v) ≡ w * (parts * v) = grind arith in
        let j : w * (z * t) ≡ w * z * t = grind arith in
        g ∙ (ap (λ n. parts * n) e ∙ (h ∙ (ap (λ n. w * n) f ∙ j)))

-- what a line with a number of runs is under a limit
record IsReady (p : Program) (s : State) (l : Line) (n limit : ℕ) : Type 0 where
  pub counted : (tally p s limit (test_for l.row.output l.row.end)).count ≡ n
  pub has : HasOutcome p s limit l.row.output l.row.end l.shown

IsReadyFrom : Program → State → ℕ → Line → Type 0
IsReadyFrom p s least l = (f : IsFinite l) × ((limit : ℕ) → least ≤ limit → IsReady p s l f.number limit)

ready-line : (p : Program) (s : State) (l : Line) (f : IsFinite l) → IsLine p s l →
    (least : ℕ) × ((limit : ℕ) → least ≤ limit → IsReady p s l f.number limit)
ready-line p s l f h =
    let runs = subst (HasRuns p s l.row) f.count h.counted in
    let k = runs (test_for l.row.output l.row.end) (is-test l.row.output l.row.end)
    (of-ended l.row.output l.row.end f.ended) in (
      h.shown.least + k.least,
      λ limit le. record {
        counted = k.counted limit (omega (arith, le));
        has = h.shown.has limit (omega (arith, le));
      },
    )

-- lines are so from some limit on
ready : (p : Program) (s : State) (ls : List Line) → ((l : Line) → Contains ls l → IsFinite l × IsLine p s l) →
    (least : ℕ) × ((l : Line) → Contains ls l → IsReadyFrom p s least l)
unfolding IsReadyFrom
ready p s [] f = (0, λ l m. absurd (contains-nil l m))
ready p s (x ∷ ls) f =
    let i = f x (contains-head x ls) in
    let k = ready-line p s x i.0 i.1 in
    let rest = ready p s ls (λ l m. f l (contains-tail x l ls m)) in (
      k.0 + rest.0,
      λ l m. elim (contains-cases x l ls m) [
        | inl e ↦
            subst (IsReadyFrom p s (k.0 + rest.0)) e (i.0, λ limit le. k.1 limit (omega (arith, le)))
        | inr n ↦ let r = rest.1 l n in (r.0, λ limit le. r.1 limit (omega (arith, le)))
      ],
    )

to-map : (ls : List Line) (l : Line) → Contains ls l → Contains (map (λ (l : Line). l.row) ls) l.row
to-map [] l m = absurd (contains-nil l m)
to-map (x ∷ ls) l m = elim (contains-cases x l ls m) [
  | inl e ↦
      subst (λ (z : Line). Contains (x.row ∷ map (λ (l : Line). l.row) ls) z.row) e
      (contains-head x.row (map (λ (l : Line). l.row) ls))
  | inr n ↦ contains-tail x.row l.row (map (λ (l : Line). l.row) ls) (to-map ls l n)
]

-- a row of a summary with the outcome of a line
settled : (p : Program) (s : State) (parts never : ℕ) (lines : List Line) → AreLines p s parts never lines →
    (l : Line) → Contains lines l → (f : IsFinite l) → (least : ℕ) →
    ((limit : ℕ) → least ≤ limit → IsReady p s l f.number limit) → (limit : ℕ) → least ≤ limit → (r : Listed) →
    IsRow p s limit r → r.output ≡ l.row.output → r.end ≡ l.row.end → IsSettled parts l f.number r
settled p s parts never lines are l m f least from limit le r row a b =
    let now = from limit le in
    let first : IsFirst p s l.row.output l.row.end l.shown =
    subst (λ z. IsRun p s l.row z l.shown) f.count (are.each l m).run in
    row_settled p s limit parts l f.number r row a b f.ended now.has now.counted first
    (row-weight p s parts never are.steps are.weight (map (λ (l : Line). l.row) lines) are.exact are.rows l.row
    (to-map lines l m) f.ended limit (λ n more. now.counted ∙ sym (from n (omega (arith, le, more))).counted) r row a b)

pub are_settled : (p : Program) (s : State) → AreSettled p s
are_settled p s parts never lines are l m f =
    let k = ready-line p s l f (are.each l m) in
    record {
      least = k.0;
      has = λ limit rows le is.
          let o = (k.1 limit le).has in
          let x = is.complete l.shown o.whole in (
            x.0,
            x.1,
            settled p s parts never lines are l m f k.0 k.1 limit le x.0 (is.sound x.0 x.1)
                (sym x.2.same_output ∙ o.same_output) (sym x.2.same_end ∙ o.same_end),
          );
    }

from-map : (ls : List Line) (x : Row) → Contains (map (λ (l : Line). l.row) ls) x →
    (l : Line) × Contains ls l × (l.row ≡ x)
from-map [] x m = absurd (contains-nil x m)
from-map (l ∷ ls) x m = elim (contains-cases l.row x (map (λ (l : Line). l.row) ls) m) [
  | inl e ↦ (l, contains-head l ls, e)
  | inr n ↦ let i = from-map ls x n in (i.0, contains-tail l i.0 ls i.1, i.2)
]

module _ (p : Program) (s : State) (parts : ℕ) (lines : List Line) (are : AreLines p s parts 0 lines) (least : ℕ)
    (from : (l : Line) → Contains lines l → IsReadyFrom p s least l) where
  -- a run that has ended is that of a line
  record IsOf (limit : ℕ) (c : List Bool) : Type 0 where
    pub line : Line
    pub there : Contains lines line
    pub same_output : (run p s limit c).last.output ≡ line.row.output
    pub same_end : stop_text (run p s limit c).stop ≡ line.row.end

  line-of : (limit : ℕ) (c : List Bool) → IsWhole p s limit c →
      (stop_text (run p s limit c).stop ≡ end_text at_limit → ⊥) → IsOf limit c
  line-of limit c w f =
      let x = row-of p s parts 0 are.steps are.weight (map (λ (l : Line). l.row) lines) limit c are.exact are.rows w f in
      let l = from-map lines x.0 x.1 in
      record {
        line = l.0;
        there = l.1;
        same_output = x.2 ∙ ap (λ (z : Row). z.output) (sym l.2);
        same_end = x.3 ∙ ap (λ (z : Row). z.end) (sym l.2);
      }

  -- no further run ends behind the least limit
  ended-back : (limit k m : ℕ) → least ≤ limit → m ≡ limit + k → (c : List Bool) → Passes p s m ended-test c →
      Passes p s limit ended-test c
  unfolding IsReadyFrom
  ended-back limit k m le eq c h =
      let e = ended-of p s m ended-test c is-of-ended h in
      let i = line-of m c h.whole (λ z. not-limit e.0 (sym (ap stop_text e.1) ∙ z)) in
      let output = i.line.row.output in
      let end = i.line.row.end in
      let q = test_for output end in
      let r = from i.line i.there in
      let a = (r.1 limit le).counted in
      let b = (r.1 m (omega (arith, le, eq))).counted in
      let passed : Passes p s m q c = record {
        whole = h.whole;
        passed = ap (λ z. test_for output end z (stop_text (run p s m c).stop)) i.same_output
            ∙ (ap (λ z. test_for output end output z) i.same_end ∙ test-self output end);
      } in
      let back = passes-back p s limit k m q c (of-ended output end r.0.ended) eq (a ∙ sym b) passed in
      let same = test-end output end (run p s limit c).last.output (stop_text (run p s limit c).stop) back.passed in
      record {
        whole = back.whole;
        passed = ap negate (false-of (test_for [] (end_text at_limit) [] (stop_text (run p s limit c).stop))
            (λ z. r.0.ended (same ∙ sym (test-end [] (end_text at_limit) [] (stop_text (run p s limit c).stop) z))));
      }

  -- so nothing goes on there
  none-going : (limit : ℕ) → least ≤ limit → going_weight p s limit ≡ 0
  none-going limit le =
      let t = 100 ^ limit in
      let k = are.steps * t + 1 in
      let m = limit + k in
      let n = 100 ^ k in
      let power : 100 ^ m ≡ t * n = pow-add 100 limit k in
      let steps = are.steps in
      let h = going_weight p s m in
      let e : (steps + 100 * (m * 0)) * 100 ^ m ≡ steps * 100 ^ m = grind arith in
      let i : steps * 100 ^ m ≡ steps * (t * n) = ap (λ z. steps * z) power in
      let soon = are.exact.soon m in
      none-goes parts steps (ended_weight p any s limit) (going_weight p s limit) (ended_weight p any s m) h t n limit k m
      are.exact.some (all_go_or_end p s limit) (all_go_or_end p s m ∙ power)
      (ended-on p s limit k m refl (ended-back limit k m le refl)) refl (pow-some k) (omega arith)
      (omega (arith, soon, e, i))

  none-at-limit : (limit : ℕ) (c : List Bool) → least ≤ limit → IsWhole p s limit c →
      (run p s limit c).stop ≡ ends at_limit → ⊥
  none-at-limit limit c le w h =
      let some = tally-some p s limit limit-test c (record {
        whole = w;
        passed = ap (λ z. test_for [] (end_text at_limit) [] (stop_text z)) h ∙ test-self [] (end_text at_limit);
      }) in
      let a = (weights_tallied p s limit).going limit-test is-of-limit in
      let b = none-going limit le in
      let y : ⊥ = omega (arith, some, a, b) in y

  of-line : (limit : ℕ) (rows : List Listed) → least ≤ limit → IsSummary p s limit rows → (r : Listed) →
      Contains rows r → IsOfLine parts lines r
  unfolding IsReadyFrom
  of-line limit rows le is r m = by_stop (run p s limit r.first).stop refl
    where
      row : IsRow p s limit r
      row = is.sound r m

      by_line : IsOf limit r.first → IsOfLine parts lines r
      by_line i =
          let f = first-has p s limit r row in
          let l = i.line in
          let g = from l i.there in
          record {
            line = l;
            there = i.there;
            finite = g.0;
            settled = settled p s parts 0 lines are l i.there g.0 least g.1 limit le r row
                (sym f.same_output ∙ i.same_output) (sym f.same_end ∙ i.same_end);
          }

      by_stop : (t : Stop) → (run p s limit r.first).stop ≡ t → IsOfLine parts lines r
      by_stop wants e = absurd (subst IsEnd e (first-has p s limit r row).whole.at_end)
      by_stop (ends (finished x)) e =
          by_line (line-of limit r.first (first-has p s limit r row).whole
          (λ z. not-limit x (sym (ap stop_text e) ∙ z)))
      by_stop (ends at_limit) e = absurd (none-at-limit limit r.first le (first-has p s limit r row).whole e)

pub are_all_settled : (p : Program) (s : State) → AreAllSettled p s
are_all_settled p s parts lines are finite =
    let c = ready p s lines (λ l m. (finite l m, are.each l m)) in
    record { least = c.0; each = λ limit rows le is r m. of-line p s parts lines are c.0 c.1 limit rows le is r m }
