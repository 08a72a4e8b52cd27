-- Proves that each tally is that of a list of runs.
use Prim.Native.Nat.{zero, suc}
use Rattle.std.proofs.Common.{◌≡◌, ℕ, ◌+◌, ◌*◌, ◌^◌, inl, inr, Bool, true, false, map, length}
use Rattle.std.proofs.Common.{List, [], ◌∷◌, ◌++◌, Option, Some, None, refl, ap, sym, ◌∙◌, subst, arith}
use Rattle.std.specs.List.{Contains}
use Rattle.std.proofs.lemmas.List.Elements.{Contains-append_left, Contains-append_right, Contains-append_cases}
use Rattle.ick_code.specs.meaning.State.{State}
use Rattle.ick_code.specs.meaning.Move.{Asking, plain, choice, ended}
use Rattle.ick_outcomes.specs.Programs.{ask, advance, Program, run}
use Rattle.ick_backtrack.specs.Asked.{Finish, finished, at_limit, IsGoing}
use Rattle.ick_explorer.specs.Runs.{ends, stays, stepped, IsEnd}
use Rattle.ick_explorer.specs.Order.{IsBelow, IsIncreasing}
use Rattle.ick_outcomes.proofs.ProgramRuns.{limit-going, run-ended, run-plain, run-choice, run-wants, whole-along}
use Rattle.ick_outcomes.proofs.ProgramRuns.{whole-back}
use Rattle.ick_explorer.proofs.ListingLaws.{contains-nil, contains-head, contains-cases}
use Rattle.ick_explorer.proofs.Existence.{contains-map, increasing-append, increasing-map, map-contains}
use Rattle.ick_outcomes.specs.Weights.{part, share_on, share, shares}
use Rattle.ick_outcomes.specs.Tallies.{Test, Passes, Tally, sooner, lead, join, push, pass, one, tally}
use Rattle.ick_outcomes.specs.Tallies.{tally_at_limit, tally_on, stop_text}

abbrev pub head_of : List (List Bool) → Option (List Bool)
head_of [] = None
head_of (c ∷ cs) = Some c

-- cs are the runs that pass, and t is their tally
pub record IsTallyOf (p : Program) (s : State) (l : ℕ) (q : Test) (t : Tally) (cs : List (List Bool)) : Type 0 where
  pub increasing : IsIncreasing cs
  pub sound : (c : List Bool) → Contains cs c → Passes p s l q c
  pub complete : (c : List Bool) → Passes p s l q c → Contains cs c
  pub counted : t.count ≡ length cs
  pub weighed : t.weight ≡ shares p s l cs
  pub earliest : t.first ≡ head_of cs

abbrev pub HasTally : Program → State → ℕ → Test → Tally → Type 0
HasTally p s l q t = (cs : List (List Bool)) × IsTallyOf p s l q t cs

passes-back : {p : Program} {s s' : State} {l l' : ℕ} {q : Test} {c c' : List Bool} →
    run p s l c ≡ stepped (run p s' l' c') → Passes p s' l' q c' → Passes p s l q c
passes-back {p} {s} {s'} {l} {l'} {q} {c} {c'} e w = record {
  whole = whole-back e w.whole;
  passed = ap (λ r. q r.last.output (stop_text r.stop)) e ∙ w.passed;
}

passes-along : {p : Program} {s s' : State} {l l' : ℕ} {q : Test} {c c' : List Bool} →
    run p s l c ≡ stepped (run p s' l' c') → Passes p s l q c → Passes p s' l' q c'
passes-along {p} {s} {s'} {l} {l'} {q} {c} {c'} e w = record {
  whole = whole-along e w.whole;
  passed = sym (ap (λ r. q r.last.output (stop_text r.stop)) e) ∙ w.passed;
}

-- if a run ends whatever choices are left, there is one run at most
tally-here : (p : Program) (s : State) (l : ℕ) (q : Test) (f : Finish) (b : Bool) →
    ((c : List Bool) → run p s l c ≡ stays s (ends f) c) → share p s l [] ≡ 100 ^ l →
    q s.output (stop_text (ends f)) ≡ b → HasTally p s l q (one b l)
tally-here p s l q f true h w e = (
  [] ∷ [],
  record {
    increasing = (λ d m. absurd (contains-nil d m), tt);
    sound = λ c m. elim (contains-cases [] c [] m) [
      | inl x ↦ subst (λ z. Passes p s l q z) x (record {
        whole = record { at_end = subst (λ r. IsEnd r.stop) (sym (h [])) tt; all_used = ap (λ r. r.unused) (h []) };
        passed = ap (λ r. q r.last.output (stop_text r.stop)) (h []) ∙ e;
      })
      | inr k ↦ absurd (contains-nil c k)
    ];
    complete = λ c w. subst (λ z. Contains ([] ∷ []) z) (sym w.whole.all_used ∙ ap (λ r. r.unused) (h c))
        (contains-head [] []);
    counted = refl;
    weighed = let n : 100 ^ l ≡ 100 ^ l + 0 = omega arith in n ∙ ap (λ x. x + 0) (sym w);
    earliest = refl;
  },
)
tally-here p s l q f false h w e = (
  [],
  record {
    increasing = tt;
    sound = λ c m. absurd (contains-nil c m);
    complete = λ c w.
        let x : false ≡ true = sym e ∙ (sym (ap (λ r. q r.last.output (stop_text r.stop)) (h c)) ∙ w.passed) in cc;
    counted = refl;
    weighed = refl;
    earliest = refl;
  },
)

-- the weight of a run by what is asked
pub share-ended : (p : Program) (s : State) (l : ℕ) (c : List Bool) (e : _) → ask p s ≡ ended e →
    share p s l c ≡ 100 ^ l
unfolding share
share-ended p s zero c e h = refl
share-ended p s (suc l) c e h = ap (λ a. share_on a l c (λ b rest. share p (advance p s b) l rest)) h

share-limit : (p : Program) (s : State) (c : List Bool) → share p s 0 c ≡ 1
unfolding share
share-limit p s c = refl

pub share-plain : (p : Program) (s : State) (l : ℕ) (c : List Bool) → ask p s ≡ plain →
    share p s (suc l) c ≡ 100 * share p (advance p s false) l c
unfolding share
share-plain p s l c h = ap (λ a. share_on a l c (λ b rest. share p (advance p s b) l rest)) h

pub share-choice : (p : Program) (s : State) (l k : ℕ) (b : Bool) (c : List Bool) → ask p s ≡ choice k →
    share p s (suc l) (b ∷ c) ≡ part k b * share p (advance p s b) l c
unfolding share
share-choice p s l k b c h = ap (λ a. share_on a l (b ∷ c) (λ b rest. share p (advance p s b) l rest)) h

-- the weight of runs
shares-plain : (p : Program) (s : State) (l : ℕ) (cs : List (List Bool)) → ask p s ≡ plain →
    100 * shares p (advance p s false) l cs ≡ shares p s (suc l) cs
shares-plain p s l [] h = refl
shares-plain p s l (c ∷ cs) h =
    let i = shares-plain p s l cs h in
    let w = share-plain p s l c h in
    omega arith

shares-map : (p : Program) (s : State) (l k : ℕ) (b : Bool) (cs : List (List Bool)) → ask p s ≡ choice k →
    shares p s (suc l) (map (λ r. b ∷ r) cs) ≡ part k b * shares p (advance p s b) l cs
shares-map p s l k b [] h = let e : 0 ≡ part k b * 0 = grind arith in e
shares-map p s l k b (c ∷ cs) h =
    let x = part k b in
    let y = share p (advance p s b) l c in
    let z = shares p (advance p s b) l cs in
    let e : x * y + x * z ≡ x * (y + z) = grind arith in
    ap (λ n. n + shares p s (suc l) (map (λ r. b ∷ r) cs)) (share-choice p s l k b c h)
    ∙ (ap (λ n. x * y + n) (shares-map p s l k b cs h) ∙ e)

shares-append : (p : Program) (s : State) (l : ℕ) (xs ys : List (List Bool)) →
    shares p s l (xs ++ ys) ≡ shares p s l xs + shares p s l ys
shares-append p s l [] ys = let e : shares p s l ys ≡ 0 + shares p s l ys = omega arith in e
shares-append p s l (x ∷ xs) ys = let i = shares-append p s l xs ys in omega arith

head-choice : (xs ys : List (List Bool)) →
    sooner (lead (false ∷ []) (head_of xs)) (lead (true ∷ []) (head_of ys))
    ≡ head_of (map (λ r. false ∷ r) xs ++ map (λ r. true ∷ r) ys)
head-choice [] [] = refl
head-choice [] (y ∷ ys) = refl
head-choice (x ∷ xs) [] = refl
head-choice (x ∷ xs) (y ∷ ys) = refl

length-choice : (xs ys : List (List Bool)) →
    length xs + length ys ≡ length (map (λ r. false ∷ r) xs ++ map (λ r. true ∷ r) ys)
length-choice [] [] = refl
length-choice [] (y ∷ ys) = let i = length-choice [] ys in omega arith
length-choice (x ∷ xs) ys = let i = length-choice xs ys in omega arith

choice-complete : (p : Program) (s : State) (l k : ℕ) (q : Test) → ask p s ≡ choice k → (xs ys : List (List Bool)) →
    ((c : List Bool) → Passes p (advance p s false) l q c → Contains xs c) →
    ((c : List Bool) → Passes p (advance p s true) l q c → Contains ys c) →
    (c : List Bool) → Passes p s (suc l) q c → Contains (map (λ r. false ∷ r) xs ++ map (λ r. true ∷ r) ys) c
choice-complete p s l k q h xs ys u v [] w =
    absurd (subst (λ r. IsEnd r.stop) (run-wants p s l k h) w.whole.at_end)
choice-complete p s l k q h xs ys u v (false ∷ c) w =
    Contains-append_left (map (λ r. false ∷ r) xs) (map (λ r. true ∷ r) ys) (false ∷ c)
    (contains-map false c xs (u c (passes-along (run-choice p s l k false c h) w)))
choice-complete p s l k q h xs ys u v (true ∷ c) w =
    Contains-append_right (map (λ r. false ∷ r) xs) (map (λ r. true ∷ r) ys) (true ∷ c)
    (contains-map true c ys (v c (passes-along (run-choice p s l k true c h) w)))

tally-choice : (p : Program) (s : State) (l k : ℕ) (q : Test) (a b : Tally) → ask p s ≡ choice k →
    HasTally p (advance p s false) l q a → HasTally p (advance p s true) l q b →
    HasTally p s (suc l) q (join (push k false a) (push k true b))
tally-choice p s l k q a b h (xs, u) (ys, v) = (
  map (λ r. false ∷ r) xs ++ map (λ r. true ∷ r) ys,
  record {
    increasing = increasing-append (map (λ r. false ∷ r) xs) (map (λ r. true ∷ r) ys)
        (increasing-map false xs (λ c d m. m) u.increasing) (increasing-map true ys (λ c d m. m) v.increasing)
        (λ c d m n. let i = map-contains false c xs m in let j = map-contains true d ys n in
        subst (λ z. IsBelow z d) i.2 (subst (λ z. IsBelow (false ∷ i.0) z) j.2 tt));
    sound = λ c m. elim (Contains-append_cases (map (λ r. false ∷ r) xs) (map (λ r. true ∷ r) ys) c m) [
      | inl n ↦ let i = map-contains false c xs n in
          subst (λ z. Passes p s (suc l) q z) i.2 (passes-back (run-choice p s l k false i.0 h) (u.sound i.0 i.1))
      | inr n ↦ let i = map-contains true c ys n in
          subst (λ z. Passes p s (suc l) q z) i.2 (passes-back (run-choice p s l k true i.0 h) (v.sound i.0 i.1))
    ];
    complete = choice-complete p s l k q h xs ys u.complete v.complete;
    counted = ap (λ n. n + b.count) u.counted ∙ (ap (λ n. length xs + n) v.counted ∙ length-choice xs ys);
    weighed = ap (λ n. part k false * n + part k true * b.weight) u.weighed
        ∙ (ap (λ n. part k false * shares p (advance p s false) l xs + part k true * n) v.weighed
        ∙ (ap (λ n. n + part k true * shares p (advance p s true) l ys) (sym (shares-map p s l k false xs h))
        ∙ (ap (λ n. shares p s (suc l) (map (λ r. false ∷ r) xs) + n) (sym (shares-map p s l k true ys h))
        ∙ sym (shares-append p s (suc l) (map (λ r. false ∷ r) xs) (map (λ r. true ∷ r) ys)))));
    earliest = ap (λ o. sooner (lead (false ∷ []) o) (lead (true ∷ []) b.first)) u.earliest
        ∙ (ap (λ o. sooner (lead (false ∷ []) (head_of xs)) (lead (true ∷ []) o)) v.earliest ∙ head-choice xs ys);
  },
)

tallied-at_limit : (p : Program) (s : State) (q : Test) (a : Asking) → ask p s ≡ a →
    HasTally p s 0 q (tally_at_limit q a s)
tallied-at_limit p s q (ended e) h =
    tally-here p s 0 q (finished e) (q s.output (stop_text (ends (finished e)))) (λ c. run-ended p s 0 c e h)
    (share-limit p s []) refl
tallied-at_limit p s q plain h =
    tally-here p s 0 q at_limit (q s.output (stop_text (ends at_limit))) (λ c. limit-going p s c plain h tt)
    (share-limit p s []) refl
tallied-at_limit p s q (choice k) h =
    tally-here p s 0 q at_limit (q s.output (stop_text (ends at_limit))) (λ c. limit-going p s c (choice k) h tt)
    (share-limit p s []) refl

tallied-on : (p : Program) (s : State) (l : ℕ) (q : Test) (a : Asking) → ask p s ≡ a → (rest : Bool → Tally) →
    ((b : Bool) → HasTally p (advance p s b) l q (rest b)) → HasTally p s (suc l) q (tally_on q a s l rest)
tallied-on p s l q (ended e) h rest ih =
    tally-here p s (suc l) q (finished e) (q s.output (stop_text (ends (finished e))))
    (λ c. run-ended p s (suc l) c e h) (share-ended p s (suc l) [] e h) refl
tallied-on p s l q plain h rest ih =
    let u = ih false in (
      u.0,
      record {
        increasing = u.1.increasing;
        sound = λ c m. passes-back (run-plain p s l c h) (u.1.sound c m);
        complete = λ c w. u.1.complete c (passes-along (run-plain p s l c h) w);
        counted = u.1.counted;
        weighed = ap (λ n. 100 * n) u.1.weighed ∙ shares-plain p s l u.0 h;
        earliest = u.1.earliest;
      },
    )
tallied-on p s l q (choice k) h rest ih =
    tally-choice p s l k q (rest false) (rest true) h (ih false) (ih true)

-- each tally is that of the list of the runs that pass
pub tallied : (p : Program) (s : State) (l : ℕ) (q : Test) → HasTally p s l q (tally p s l q)
unfolding tally
tallied p s zero q = tallied-at_limit p s q (ask p s) refl
tallied p s (suc l) q =
    tallied-on p s l q (ask p s) refl (λ b. tally p (advance p s b) l q) (λ b. tallied p (advance p s b) l q)

-- if a run ends
pub tally-ended : (p : Program) (s : State) (l : ℕ) (q : Test) (a : _) → ask p s ≡ ended a →
    tally p s l q ≡ one (q s.output (stop_text (ends (finished a)))) l
unfolding tally
tally-ended p s zero q a h = ap (λ x. tally_at_limit q x s) h
tally-ended p s (suc l) q a h = ap (λ x. tally_on q x s l (λ b. tally p (advance p s b) l q)) h

-- at the limit
pub tally-limit : (p : Program) (s : State) (q : Test) → IsGoing (ask p s) →
    tally p s 0 q ≡ one (q s.output (stop_text (ends at_limit))) 0
unfolding tally
tally-limit p s q g = by_asking (ask p s) g
  where
    by_asking : (a : Asking) → IsGoing a → tally_at_limit q a s ≡ one (q s.output (stop_text (ends at_limit))) 0
    by_asking plain g = refl
    by_asking (choice k) g = refl
    by_asking (ended e) g = absurd g

pub tally-plain : (p : Program) (s : State) (l : ℕ) (q : Test) → ask p s ≡ plain →
    tally p s (suc l) q ≡ pass (tally p (advance p s false) l q)
unfolding tally
tally-plain p s l q h = ap (λ x. tally_on q x s l (λ b. tally p (advance p s b) l q)) h

pub tally-chosen : (p : Program) (s : State) (l k : ℕ) (q : Test) → ask p s ≡ choice k →
    tally p s (suc l) q
    ≡ join (push k false (tally p (advance p s false) l q)) (push k true (tally p (advance p s true) l q))
unfolding tally
tally-chosen p s l k q h = ap (λ x. tally_on q x s l (λ b. tally p (advance p s b) l q)) h
