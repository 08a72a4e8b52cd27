-- Reading finds a value or stops, never both, and stops at one place.
use Rattle.std.proofs.Common.{◌≡◌, ℕ, suc, zero, ◌<◌, ◌⊎◌, inl, inr, Bool, true, false, nat_lt, List, length, Option}
use Rattle.std.proofs.Common.{Some, None, refl, sym, subst, ◌∙◌, arith}
use Rattle.std.specs.Prelude.{cond}
use Rattle.std.proofs.lemmas.Bool.Decides.{nat_tests}
use Rattle.ick_source.specs.declared.wanted.Wanted.{Wanted}
use Rattle.ick_source.specs.declared.wanted.Wanted.TheVariants.{Body, Number}
use Rattle.ick_source.specs.Position.{past_white}
use Rattle.ick_source.specs.Token.{IsNumber, IsWord}
use Rattle.ick_source.specs.Grammar.{Grammar, Further, yields, nothing, sequence, word, number, sign, next, looks, repeated}
use Rattle.ick_source.specs.Grammar.{Part, stands}
use Rattle.ick_source.specs.Reading.{Found, Finding, and_then, join, turn_further, turn_on, turns, read}
use Rattle.ick_source.specs.Stops.{Stopping, IsStopped, in_part, later_on, stuck, stop_place, told_by, stops}
use Rattle.ick_source.specs.Cursors.{Halts}
use Rattle.ick_source.specs.Wanted.{wanted_word}
use Rattle.ick_source.proofs.GrammarLaws.{found, there, one_found}
use Rattle.ick_source.proofs.Readings.{word_found, word_nothing, number_found, number_nothing}

turns-stopped : {A : Type 0} (part : Part A) (stop : Stopping) (finds : List ℕ → Finding A)
    (further : Further) →
    ((from to : List ℕ) (x : A) → part from to x → finds from ≡ Some (record { value = x; left = to })) →
    ((from at : List ℕ) (w : Wanted) → stop from at w → finds from ≡ None) →
    (n : ℕ) (from at : List ℕ) (w : Wanted) → IsStopped A part stop further from at w → turns n finds further from ≡ None
unfolding turns
turns-stopped part stop finds further agrees fails zero from at w p = refl
turns-stopped part stop finds further agrees fails (suc n) from at w (in_part p) = rw (fails from at w p) refl
turns-stopped part stop finds further agrees fails (suc n) from at w (later_on {later = later} p e less q) =
    let test : nat_lt (length later) (length from) ≡ true = grind (arith, nat_tests, less) in
    rw (agrees _ _ _ p, e, test, turns-stopped part stop finds further agrees fails n later at w q) refl
turns-stopped part stop finds further agrees fails (suc n) from at w (stuck p e more) =
    let test : nat_lt (length at) (length from) ≡ false = grind (arith, nat_tests, more) in
    rw (agrees _ _ _ p, e, test) refl

pub stopped : {A : Type 0} (g : Grammar A) (told from at : List ℕ) (w : Wanted) → stops g told from at w →
    read g from ≡ None
unfolding stops read
stopped (yields a) told from at w p = absurd p
stopped (nothing v) told from at w p = refl
stopped (sequence g f) told from at w (inl p) = rw (stopped g told from at w p) refl
stopped (sequence g f) told from at w (inr p) =
    rw (found g from p.0 p.1 p.2) (stopped (f p.1) (told_by g from p.0) p.0 at w p.3)
stopped (word v) told from at w p = word_nothing v from p.0
stopped number told from at w p = number_nothing from p.0
stopped sign told from at w p = absurd p
stopped next told from at w p = absurd p
stopped (looks v) told from at w p = absurd p
stopped (repeated g further) told from at w p =
    turns-stopped (stands g) (λ from at w. stops g from from at w) (read g) further (λ from to x q. found g from to x q)
    (λ from at w q. stopped g from from at w q) (suc (length from)) from at w p

abbrev pub Stop : {A : Type 0} → Grammar A → (told from : List ℕ) → Type 0
Stop g told from = (at : List ℕ) × (w : Wanted) × (stops g told from at w)

turns-stop : {A : Type 0} (part : Part A) (stop : Stopping) (finds : List ℕ → Finding A)
    (further : Further) →
    ((from : List ℕ) (r : Found A) → finds from ≡ Some r → part from r.left r.value) →
    ((from : List ℕ) → finds from ≡ None → (at : List ℕ) × (w : Wanted) × (stop from at w)) →
    (n : ℕ) (from : List ℕ) → length from < n → turns n finds further from ≡ None →
    (at : List ℕ) × (w : Wanted) × (IsStopped A part stop further from at w)
unfolding turns
turns-stop part stop finds further agrees fails zero from low e = absurd (omega (arith, low))
turns-stop {A} part stop finds further agrees fails (suc n) from low e =
    by_part (λ later less e. turns-stop part stop finds further agrees fails n later (omega (arith, less, low)) e)
    (finds from) refl e
  where
    by_turns : (later : List ℕ) (x : Found A) → finds from ≡ Some x → further from x.left ≡ Some later →
        length later < length from →
        ((at : List ℕ) × (w : Wanted) × (IsStopped A part stop further later at w)) →
        (at : List ℕ) × (w : Wanted) × (IsStopped A part stop further from at w)
    by_turns later x p q less s = (s.0, s.1, later_on (agrees from x p) q less s.2)

    by_join : (later : List ℕ) (x : Found A) → finds from ≡ Some x → further from x.left ≡ Some later →
        length later < length from →
        ((later : List ℕ) → length later < length from → turns n finds further later ≡ None →
        (at : List ℕ) × (w : Wanted) × (IsStopped A part stop further later at w)) →
        (o : Finding (List A)) → turns n finds further later ≡ o → join x.value o ≡ None →
        (at : List ℕ) × (w : Wanted) × (IsStopped A part stop further from at w)
    by_join later x p q less again None t e = by_turns later x p q less (again later less t)
    by_join later x p q less again (Some r) t e = absurd (cc)

    by_test : (later : List ℕ) (x : Found A) → finds from ≡ Some x → further from x.left ≡ Some later →
        ((later : List ℕ) → length later < length from → turns n finds further later ≡ None →
        (at : List ℕ) × (w : Wanted) × (IsStopped A part stop further later at w)) →
        (t : Bool) → nat_lt (length later) (length from) ≡ t →
        cond t (join x.value (turns n finds further later)) None ≡ None →
        (at : List ℕ) × (w : Wanted) × (IsStopped A part stop further from at w)
    by_test later x p q again true t e =
        by_join later x p q (grind (arith, nat_tests)) again (turns n finds further later) refl e
    by_test later x p q again false t e = (
      later,
      Body,
      stuck (agrees from x p) q (λ less. let yes : nat_lt (length later) (length from) ≡ true =
          grind (arith, nat_tests, less) in cc),
    )

    by_further : (x : Found A) → finds from ≡ Some x →
        ((later : List ℕ) → length later < length from → turns n finds further later ≡ None →
        (at : List ℕ) × (w : Wanted) × (IsStopped A part stop further later at w)) →
        (o : Option (List ℕ)) → further from x.left ≡ o → turn_further (turns n finds further) from x o ≡ None →
        (at : List ℕ) × (w : Wanted) × (IsStopped A part stop further from at w)
    by_further x p again None q e = absurd (cc)
    by_further x p again (Some later) q e = by_test later x p q again (nat_lt (length later) (length from)) refl e

    by_part : ((later : List ℕ) → length later < length from → turns n finds further later ≡ None →
        (at : List ℕ) × (w : Wanted) × (IsStopped A part stop further later at w)) →
        (o : Finding A) → finds from ≡ o → turn_on (turns n finds further) further from o ≡ None →
        (at : List ℕ) × (w : Wanted) × (IsStopped A part stop further from at w)
    by_part again None p e = let s = fails from p in (s.0, s.1, in_part s.2)
    by_part again (Some x) p e = by_further x p again (further from x.left) refl e

pub stop_there : {A : Type 0} (g : Grammar A) (told from : List ℕ) → read g from ≡ None → Stop g told from
unfolding stops read
stop_there (yields a) told from e = absurd (cc)
stop_there (nothing v) told from e = (stop_place v told from, v, (refl, refl))
stop_there (sequence {A = B} g f) told from e =
    by_first (read g from) refl (λ p. stop_there g told from p)
    (λ a mid p. stop_there (f a) (told_by g from mid) mid p) e
  where
    by_first : (o : Finding B) → read g from ≡ o → (read g from ≡ None → Stop g told from) →
        ((a : B) (mid : List ℕ) → read (f a) mid ≡ None → Stop (f a) (told_by g from mid) mid) →
        and_then o (λ a mid. read (f a) mid) ≡ None → Stop (sequence g f) told from
    by_first None p first rest e = let s = first p in (s.0, s.1, inl s.2)
    by_first (Some r) p first rest e =
        let s = rest r.value r.left e in (s.0, s.1, inr (r.left, r.value, there g from r p, s.2))
stop_there (word v) told from e =
    (from, wanted_word v, (λ after p. let f = word_found v from after p in absurd (cc), refl, refl))
stop_there number told from e =
    (from, Number, (λ to n p. let f = number_found from to n p in absurd (cc), refl, refl))
stop_there sign told from e = absurd (cc)
stop_there next told from e = absurd (cc)
stop_there (looks v) told from e = absurd (cc)
stop_there (repeated g further) told from e =
    turns-stop (stands g) (λ from at w. stops g from from at w) (read g) further (λ from r p. there g from r p)
    (λ from p. stop_there g from from p) (suc (length from)) from (omega arith) e

abbrev Same : (at at' : List ℕ) (w w' : Wanted) → Type 0
Same at at' w w' = (at ≡ at') × (w ≡ w')

-- what is found is not stopped
apart : {A : Type 0} (g : Grammar A) (told from at to : List ℕ) (x : A) (w : Wanted) → stops g told from at w →
    stands g from to x → ⊥
apart g told from at to x w p q = absurd (let e = sym (stopped g told from at w p) ∙ found g from to x q in cc)

turns-one : {A : Type 0} (g : Grammar A) (further : Further) →
    ((from at at' : List ℕ) (w w' : Wanted) → stops g from from at w → stops g from from at' w' → Same at at' w w') →
    {from at at' : List ℕ} {w w' : Wanted} →
    IsStopped A (stands g) (λ from at w. stops g from from at w) further from at w →
    IsStopped A (stands g) (λ from at w. stops g from from at w) further from at' w' → Same at at' w w'
turns-one g further one (in_part p) (in_part q) = one _ _ _ _ _ p q
turns-one g further one (in_part p) (later_on q e less s) = absurd (apart g _ _ _ _ _ _ p q)
turns-one g further one (in_part p) (stuck q e more) = absurd (apart g _ _ _ _ _ _ p q)
turns-one g further one (later_on q e less s) (in_part p) = absurd (apart g _ _ _ _ _ _ p q)
turns-one g further one (stuck q e more) (in_part p) = absurd (apart g _ _ _ _ _ _ p q)
turns-one g further one {from = from} {at = at} {at' = at'} {w = w} {w' = w'}
    (later_on {mid = mid} {later = later} {x = x} p e less s) (later_on {mid = mid'} {later = later'} {x = x'} q f less' s') =
    let same = one_found _ _ (sym (found g _ _ x' q) ∙ found g _ _ x p) in
    let next : later' ≡ later = let m = same.0 in cc in
    turns-one g further one s
    (subst (λ l. IsStopped _ (stands g) (λ from at w. stops g from from at w) further l at' w') next s')
turns-one g further one {from = from} (later_on {mid = mid} {later = later} {x = x} p e less s) (stuck {mid = mid'} {x = x'} q f more) =
    let same = one_found _ _ (sym (found g _ _ x' q) ∙ found g _ _ x p) in
    absurd (more (subst (λ l. length l < length from) (let m = same.0 in cc) less))
turns-one g further one {from = from} (stuck {mid = mid} {x = x} p e more) (later_on {mid = mid'} {later = later'} {x = x'} q f less s) =
    let same = one_found _ _ (sym (found g _ _ x' q) ∙ found g _ _ x p) in
    absurd (more (subst (λ l. length l < length from) (let m = same.0 in cc) less))
turns-one g further one (stuck {mid = mid} {x = x} p e more) (stuck {mid = mid'} {x = x'} q f more') =
    let same = one_found _ _ (sym (found g _ _ x' q) ∙ found g _ _ x p) in
    (let m = same.0 in cc, refl)

-- reading stops at one place, where one thing is wanted
pub one_stop : {A : Type 0} (g : Grammar A) (told from at at' : List ℕ) (w w' : Wanted) → stops g told from at w →
    stops g told from at' w' → Same at at' w w'
unfolding stops
one_stop (yields a) told from at at' w w' p q = absurd p
one_stop (nothing v) told from at at' w w' p q = (sym p.0 ∙ q.0, sym p.1 ∙ q.1)
one_stop (sequence g f) told from at at' w w' (inl p) (inl q) = one_stop g told from at at' w w' p q
one_stop (sequence g f) told from at at' w w' (inl p) (inr q) = absurd (apart g told from at q.0 q.1 w p q.2)
one_stop (sequence g f) told from at at' w w' (inr p) (inl q) = absurd (apart g told from at' p.0 p.1 w' q p.2)
one_stop (sequence g f) told from at at' w w' (inr (mid, a, p, s)) (inr (mid', a', q, s')) =
    let same = one_found _ _ (sym (found g from mid' a' q) ∙ found g from mid a p) in
    one_stop (f a) (told_by g from mid) mid at at' w w' s
    (subst (λ b. stops (f b) (told_by g from mid) mid at' w') (sym same.1)
    (subst (λ l. stops (f a') (told_by g from l) l at' w') (sym same.0) s'))
one_stop (word v) told from at at' w w' p q = (sym p.1 ∙ q.1, sym p.2 ∙ q.2)
one_stop number told from at at' w w' p q = (sym p.1 ∙ q.1, sym p.2 ∙ q.2)
one_stop sign told from at at' w w' p q = absurd p
one_stop next told from at at' w w' p q = absurd p
one_stop (looks v) told from at at' w w' p q = absurd p
one_stop (repeated g further) told from at at' w w' p q =
    turns-one g further (λ from at at' w w' p q. one_stop g from from at at' w w' p q) p q

-- the first part stops, or one after it
pub halts_first : {A B : Type 0} (g : Grammar A) (f : A → Grammar B) (told from at : List ℕ) (w : Wanted) →
    stops g told from at w → stops (sequence g f) told from at w
unfolding stops
halts_first g f told from at w p = inl p

pub halts_then : {A B : Type 0} (g : Grammar A) (f : A → Grammar B) (told from mid at : List ℕ) (a : A) (w : Wanted) →
    stands g from mid a → stops (f a) (told_by g from mid) mid at w → stops (sequence g f) told from at w
unfolding stops
halts_then g f told from mid at a w p q = inr (mid, a, p, q)

pub halts_part : {A : Type 0} (g : Grammar A) (further : Further) (from at : List ℕ) (w : Wanted) →
    Halts g from at w → Halts (repeated g further) from at w
unfolding stops
halts_part g further from at w p = λ told. in_part (p from)

pub halts_later : {A : Type 0} (g : Grammar A) (further : Further) (from mid later at : List ℕ) (x : A) (w : Wanted) →
    stands g from mid x → further from mid ≡ Some later → length later < length from →
    Halts (repeated g further) later at w → Halts (repeated g further) from at w
unfolding stops
halts_later g further from mid later at x w p e less q = λ told. later_on p e less (q told)

pub halts_word : (v from : List ℕ) → ((after : List ℕ) → IsWord v from after → ⊥) →
    Halts (word v) from from (wanted_word v)
unfolding stops
halts_word v from none told = (none, refl, refl)

pub halts_number : (from : List ℕ) → ((to : List ℕ) (n : ℕ) → IsNumber from to n → ⊥) → Halts number from from Number
unfolding stops
halts_number from none told = (none, refl, refl)
