-- How an explorer is led along a run, and back from its end.
use Rattle.std.proofs.Common.{◌≡◌, ℕ, zero, suc, ◌+◌, ◌-◌, ◌<◌, ◌≤◌, inl, inr, Bool, true}
use Rattle.std.proofs.Common.{false, List, [], ◌∷◌, ◌++◌, map, length, take, get_or, refl, ap, sym, ◌∙◌}
use Rattle.std.proofs.Common.{subst, arith, append_assoc, length-append}
use Rattle.std.proofs.lemmas.List.{map-append, length_push, take_more}
use Rattle.std.proofs.lemmas.Option.{slice_get_within, get_or_from_slice_get}
use Rattle.std.specs.Prelude.{Some}
use Rattle.ick_code.specs.meaning.State.{State}
use Rattle.ick_code.specs.meaning.Move.{plain, choice, ended, ask, advance}
use Rattle.ick_backtrack.specs.Machine.{Program, Machine}
use Rattle.ick_backtrack.specs.Asked.{Finish, finished, at_limit, finish_of, asked_at_end, asked_of, IsGoing}
use Rattle.ick_backtrack.specs.Steps.{IsPlain, HasRun, Rests}
use Rattle.ick_backtrack.specs.declared.asking.End.{End}
use Rattle.ick_backtrack.specs.declared.asking.Ask.{Ask}
use Rattle.ick_backtrack.specs.declared.asking.Ask.TheVariants.{Plain, Choice, Ended}
use Rattle.ick_explorer.specs.Runs.{run}
use Rattle.ick_explorer.specs.Listings.{before_zeros, zeros_in}
use Rattle.ick_explorer.specs.Paths.{Leads, AllOnes, AllZeros, TurnsAt}
use Rattle.ick_explorer.specs.Marked.{is_choice, IsMarked}
use Rattle.ick_explorer.specs.Standing.{Keeps, StandsAfter}
use Rattle.ick_explorer.specs.declared.walk.Way.{Way}
use Rattle.ick_explorer.specs.declared.walk.Way.TheVariants.{Zeros, Along}
use Rattle.ick_explorer.specs.Walks.{Walks, IsChoosing, EndsHere, Moves, given_by, HasGiven, Goes, TurnsBack}
use Rattle.ick_explorer.proofs.RunLaws.{Leads-on, Leads-choice, Leads-wants, Stops, wants-stops, use-wants, ends_finished}
use Rattle.ick_explorer.proofs.Orders.{before_zeros-zero, before_zeros-one, before_zeros-turns}
use Rattle.ick_explorer.proofs.Marks.{choice_of, zeros-ones, marked_step, marked_one, marked_zero, unmarked}

-- what a machine's answer says of it
pub asks_end : (asked : Ask) (e : End) (l n : ℕ) (m : Machine) → asked ≡ Ended e →
    asked_of asked ≡ Some (ask m.program m.state) → EndsHere l m n (finish_of e)
asks_end asked e l n m i a = by (finish_of e) (sym (ap asked_of i) ∙ a)
  where
    by : (f : Finish) → asked_at_end f ≡ Some (ask m.program m.state) → EndsHere l m n f
    by (finished x) h = ends_finished l m n x cc
    by at_limit h = cc

-- .. and its run is over
pub asks_over : (asked : Ask) (e : End) (m : Machine) → asked ≡ Ended e →
    asked_of asked ≡ Some (ask m.program m.state) → ¬ IsGoing (ask m.program m.state)
asks_over asked e m i a = by (finish_of e) (sym (ap asked_of i) ∙ a)
  where
    by : (f : Finish) → asked_at_end f ≡ Some (ask m.program m.state) → ¬ IsGoing (ask m.program m.state)
    by (finished x) h = let e : ask m.program m.state ≡ ended x = cc in λ going. subst IsGoing e going
    by at_limit h = cc

pub asks_chance : (asked : Ask) (k : ℕ) (m : Machine) → asked ≡ Choice k →
    asked_of asked ≡ Some (ask m.program m.state) → ask m.program m.state ≡ choice k
asks_chance asked k m i a = cc

pub asks_choice : (asked : Ask) (k : ℕ) (m : Machine) → asked ≡ Choice k →
    asked_of asked ≡ Some (ask m.program m.state) → IsChoosing m
asks_choice asked k m i a = ap is_choice (asks_chance asked k m i a)

pub asks_plain : (asked : Ask) (m : Machine) → ((k : ℕ) → asked ≡ Choice k → ⊥) → ((e : End) →
    asked ≡ Ended e → ⊥) → asked_of asked ≡ Some (ask m.program m.state) → ask m.program m.state ≡ plain
asks_plain Plain m i j a = cc
asks_plain (Choice k) m i j a = absurd (i k refl)
asks_plain (Ended e) m i j a = absurd (j e refl)

pub asks_going : (asked : Ask) (m : Machine) → ((e : End) → asked ≡ Ended e → ⊥) →
    asked_of asked ≡ Some (ask m.program m.state) → IsGoing (ask m.program m.state)
asks_going Plain m j a = let e : ask m.program m.state ≡ plain = cc in subst IsGoing (sym e) tt
asks_going (Choice k) m j a = let e : ask m.program m.state ≡ choice k = cc in subst IsGoing (sym e) tt
asks_going (Ended e) m j a = absurd (j e refl)

pub Moves-on : (l : ℕ) (m₀ : Machine) (c₀ : List Bool) (points₀ : List ℕ) (n₀ : ℕ) (m₁ : Machine)
    (c₁ : List Bool) (points₁ : List ℕ) (n₁ : ℕ) (m₂ : Machine) (c₂ : List Bool) (points₂ : List ℕ)
    (n₂ : ℕ) → Moves l m₀ c₀ points₀ n₀ m₁ c₁ points₁ n₁ →
    Moves l m₁ c₁ points₁ n₁ m₂ c₂ points₂ n₂ →
    Moves l m₀ c₀ points₀ n₀ m₂ c₂ points₂ n₂
Moves-on l m₀ c₀ points₀ n₀ m₁ c₁ points₁ n₁ m₂ c₂ points₂ n₂ u v = record {
  program = v.program ∙ u.program;
  work = let a = u.work in let b = v.work in omega arith;
  within = v.within;
  marked = λ k. v.marked (u.marked k);
  walks = λ s w. v.walks s (u.walks s w);
}

-- the machine after a step
abbrev pub after_step : Bool → Machine → Machine
after_step done m = record m { state = advance m.program m.state done; work = m.work + 1 }

-- the machine with its state marked
abbrev pub after_mark : Machine → Machine
after_mark m = record m { marks = m.marks ++ m.state ∷ [] }

-- as many steps as were made by themselves
pub moves_plain : (l : ℕ) (m m' : Machine) (c : List Bool) (points : List ℕ) (n k : ℕ) → n + k ≤ l →
    HasRun m k m' → Moves l m c points n m' c points (n + k)
moves_plain l m m' c points n k within ran =
    let same_program = ap (λ x. x.program) ran.machine_is in
    let same_marks = ap (λ x. x.marks) ran.machine_is in
    record {
      program = same_program;
      work = let more = ap (λ x. x.work) ran.machine_is in omega (arith, more);
      within = within;
      marked = λ h. marked_step l m m' c points same_program same_marks h;
      walks = λ s w. record {
        leads = subst (λ p. Leads p s l c m'.state (n + k)) (sym same_program)
            (Leads-on m.program s l c m.state m'.state n k w.leads ran.runs within);
        keeps = subst (λ p. Keeps p s l c m'.marks points) (sym same_program)
            (subst (λ x. Keeps m.program s l c x points) (sym same_marks) w.keeps);
      };
    }

-- a step is due where nothing is asked before the limit
pub made_some : (m m' : Machine) (limit n k : ℕ) → HasRun m k m' →
    Rests IsPlain m'.program (limit - n) k m'.state → IsPlain m.program m.state → n < limit → 0 < k
made_some m m' limit n zero ran (inl all) free lt = absurd (omega (arith, all, lt))
made_some m m' limit n zero ran (inr rests) free lt =
    absurd (rests (subst (λ p. IsPlain p m'.state) (sym (ap (λ x. x.program) ran.machine_is))
    (subst (IsPlain m.program) (sym ran.runs.leads) free)))
made_some m m' limit n (suc k) ran rests free lt = omega arith

keeps_zero : (p : Program) (s : State) (l : ℕ) (c : List Bool) (marks : List State) (points : List ℕ) (t : State)
    (n k : ℕ) → Keeps p s l c marks points → Leads p s l c t n → ask p t ≡ choice k → n < l →
    Keeps p s l (c ++ false ∷ []) (marks ++ t ∷ []) (points ++ n ∷ [])
keeps_zero p s l c marks points t n k h g a lt =
    let r = Leads-wants p s l c t n k g a lt in record {
      states =
          ap (λ x. x ++ t ∷ []) h.states
          ∙ (ap (λ x. map (λ b. (run p s l b).last) (before_zeros c) ++ x ∷ []) (sym (ap (λ x. x.last) r))
          ∙ (sym (map-append (λ b. (run p s l b).last) (before_zeros c) (c ∷ []))
          ∙ ap (map (λ b. (run p s l b).last)) (sym (before_zeros-zero c))));
      steps =
          ap (λ x. x ++ n ∷ []) h.steps
          ∙ (ap (λ x. map (λ b. (run p s l b).steps) (before_zeros c) ++ x ∷ []) (sym (ap (λ x. x.steps) r))
          ∙ (sym (map-append (λ b. (run p s l b).steps) (before_zeros c) (c ∷ []))
          ∙ ap (map (λ b. (run p s l b).steps)) (sym (before_zeros-zero c))));
    }

-- a choice of zero, whose state is marked
pub moves_zero : (l : ℕ) (m m' : Machine) (c : List Bool) (points : List ℕ) (n : ℕ) → n < l → IsChoosing m →
    m' ≡ after_step false (after_mark m) → Moves l m c points n m' (c ++ false ∷ []) (points ++ n ∷ []) (n + 1)
moves_zero l m m' c points n lt a e =
    let k = choice_of (ask m.program m.state) a in
    subst (λ x. Moves l m c points n x (c ++ false ∷ []) (points ++ n ∷ []) (n + 1)) (sym e) (record {
      program = refl;
      work = omega arith;
      within = omega arith;
      marked =
          λ h. marked_step l (after_mark m) (after_step false (after_mark m)) (c ++ false ∷ []) (points ++ n ∷ [])
          refl refl
          (marked_zero l m c points n a lt h);
      walks = λ s w. record {
        leads = Leads-choice m.program s l c m.state n k.0 false w.leads k.1 lt;
        keeps = keeps_zero m.program s l c m.marks points m.state n k.0 w.keeps w.leads k.1 lt;
      };
    })

-- a choice of one
pub moves_one : (l : ℕ) (m m' : Machine) (c : List Bool) (points : List ℕ) (n : ℕ) → n < l → IsChoosing m →
    m' ≡ after_step true m → Moves l m c points n m' (c ++ true ∷ []) points (n + 1)
moves_one l m m' c points n lt a e =
    let k = choice_of (ask m.program m.state) a in
    subst (λ x. Moves l m c points n x (c ++ true ∷ []) points (n + 1)) (sym e) (record {
      program = refl;
      work = omega arith;
      within = omega arith;
      marked =
          λ h. marked_step l m (after_step true m) (c ++ true ∷ []) points refl refl (marked_one l m c points h);
      walks = λ s w. record {
        leads = Leads-choice m.program s l c m.state n k.0 true w.leads k.1 lt;
        keeps = record {
          states = w.keeps.states ∙ ap (map (λ b. (run m.program s l b).last)) (sym (before_zeros-one c));
          steps = w.keeps.steps ∙ ap (map (λ b. (run m.program s l b).steps)) (sym (before_zeros-one c));
        };
      };
    })

-- the same as calls give it
pub chose_zero : (l : ℕ) (m m₁ m' : Machine) (c c' : List Bool) (points points' : List ℕ) (n : ℕ)
    (done : Bool) → done ≡ false → n < l → IsChoosing m → m₁ ≡ after_mark m →
    m' ≡ after_step false m₁ → c' ≡ c ++ done ∷ [] → points' ≡ points ++ n ∷ [] →
    Moves l m c points n m' c' points' (n + 1)
chose_zero l m m₁ m' c c' points points' n done d lt a e f x y =
    subst (λ z. Moves l m c points n m' z points' (n + 1)) (sym (x ∙ ap (λ b. c ++ b ∷ []) d))
    (subst (λ z. Moves l m c points n m' (c ++ false ∷ []) z (n + 1)) (sym y)
    (moves_zero l m m' c points n lt a (f ∙ ap (after_step false) e)))

pub chose_one : (l : ℕ) (m m' : Machine) (c c' : List Bool) (points : List ℕ) (n : ℕ) (done : Bool) →
    done ≡ true → n < l → IsChoosing m → m' ≡ after_step true m → c' ≡ c ++ done ∷ [] →
    Moves l m c points n m' c' points (n + 1)
chose_one l m m' c c' points n done d lt a f x =
    subst (λ z. Moves l m c points n m' z points (n + 1)) (sym (x ∙ ap (λ b. c ++ b ∷ []) d))
    (moves_one l m m' c points n lt a f)

all_zeros-append : (y z : List Bool) → AllZeros y → AllZeros z → AllZeros (y ++ z)
all_zeros-append [] z u v = v
all_zeros-append (false ∷ y) z u v = all_zeros-append y z u v
all_zeros-append (true ∷ y) z u v = absurd u

-- a way gives one more choice
gave_more : (way : Way) (z : List Bool) (b : Bool) → HasGiven way z → given_by way (length z) ≡ Some b →
    HasGiven way (z ++ b ∷ [])
gave_more Zeros z b gave given =
    let zero : false ≡ b = cc in
    subst (λ x. AllZeros (z ++ x ∷ [])) zero (all_zeros-append z (false ∷ []) gave tt)
gave_more (Along choices) z b gave given =
    let lt : length z < length choices.now = slice_get_within choices.now (length z) b given in
    let at : get_or choices.now (length z) false ≡ b = get_or_from_slice_get choices.now (length z) b false given in
    let size : length (z ++ b ∷ []) ≡ length z + 1 = length_push z b in
    ap (λ x. x ++ b ∷ []) gave
    ∙ (ap (λ x. take (length z) choices.now ++ x ∷ []) (sym at)
    ∙ (sym (take_more choices.now (length z) false lt) ∙ ap (λ n. take n choices.now) (sym size)))

-- on by steps that ask nothing ..
pub goes_plainly : (way : Way) (l : ℕ) (m₀ : Machine) (c₀ : List Bool) (points₀ : List ℕ) (n₀ : ℕ) (m₁ : Machine)
    (c : List Bool) (points : List ℕ) (n₁ : ℕ) (m₂ : Machine) (n₂ : ℕ) →
    Goes way l m₀ c₀ points₀ n₀ m₁ c points n₁ → Moves l m₁ c points n₁ m₂ c points n₂ →
    Goes way l m₀ c₀ points₀ n₀ m₂ c points n₂
goes_plainly way l m₀ c₀ points₀ n₀ m₁ c points n₁ m₂ n₂ u v = record {
  moves = Moves-on l m₀ c₀ points₀ n₀ m₁ c points n₁ m₂ c points n₂ u.moves v;
  taken = u.taken;
}

-- .. and by a choice that the way gives
pub goes_by : (way : Way) (l : ℕ) (m₀ : Machine) (c₀ : List Bool) (points₀ : List ℕ) (n₀ : ℕ) (m₁ : Machine)
    (c₁ : List Bool) (points₁ : List ℕ) (n₁ : ℕ) (m₂ : Machine) (c₂ : List Bool) (points₂ : List ℕ)
    (n₂ used : ℕ) (b : Bool) → length c₁ ≡ length c₀ + used → given_by way used ≡ Some b → c₂ ≡ c₁ ++ b ∷ [] →
    Goes way l m₀ c₀ points₀ n₀ m₁ c₁ points₁ n₁ → Moves l m₁ c₁ points₁ n₁ m₂ c₂ points₂ n₂ →
    Goes way l m₀ c₀ points₀ n₀ m₂ c₂ points₂ n₂
goes_by way l m₀ c₀ points₀ n₀ m₁ c₁ points₁ n₁ m₂ c₂ points₂ n₂ used b count given e u v =
    let z = u.taken.0 in
    let all : length c₁ ≡ length c₀ + length z = ap length u.taken.2 ∙ length-append c₀ z in
    let same : used ≡ length z = omega (arith, count, all) in
    record {
      moves = Moves-on l m₀ c₀ points₀ n₀ m₁ c₁ points₁ n₁ m₂ c₂ points₂ n₂ u.moves v;
      taken = (
        z ++ b ∷ [],
        gave_more way z b u.taken.1 (ap (given_by way) (sym same) ∙ given),
        e ∙ (ap (λ x. x ++ b ∷ []) u.taken.2 ∙ append_assoc c₀ z (b ∷ [])),
      );
    }

-- two lists with one more element
pub same_front : {A : Type 0} (xs ys : List A) (a b : A) → xs ++ a ∷ [] ≡ ys ++ b ∷ [] → (xs ≡ ys) × (a ≡ b)
same_front {A} [] [] a b e = (refl, cc)
same_front {A} [] (y ∷ ys) a b e = let f : length {A = A} [] + 1 ≡ length ys + 1 + 1 =
    omega (arith, ap length e, length-append ys (b ∷ [])) in absurd (omega arith)
same_front {A} (x ∷ xs) [] a b e = let f : length xs + 1 + 1 ≡ 1 =
    omega (arith, ap length e, length-append xs (a ∷ [])) in absurd (omega arith)
same_front {A} (x ∷ xs) (y ∷ ys) a b e =
    let f : xs ++ a ∷ [] ≡ ys ++ b ∷ [] = cc in
    let g : x ≡ y = cc in
    let r = same_front xs ys a b f in
    (ap (λ z. z ∷ xs) g ∙ ap (λ zs. y ∷ zs) r.0, r.1)

-- at the last zero: the run stops there, and the marks below it are those of the choices before it
pub record AtTurn (p : Program) (s : State) (l : ℕ) (pre : List Bool) (t : State) (n : ℕ) (marks : List State)
    (points : List ℕ) : Type 0 where
  pub stops : Stops p s l pre (run p s l pre)
  pub state : t ≡ (run p s l pre).last
  pub steps : n ≡ (run p s l pre).steps
  pub keeps : Keeps p s l pre marks points

at_turn : (p : Program) (s : State) (l : ℕ) (c pre : List Bool) (marks : List State) (points : List ℕ) (t : State)
    (n : ℕ) → StandsAfter p s l c (marks ++ t ∷ []) (points ++ n ∷ []) → TurnsAt c pre →
    AtTurn p s l pre t n marks points
at_turn p s l c pre marks points t n h turn =
    let z = before_zeros-turns c pre turn in
    let u = same_front marks (map (λ b. (run p s l b).last) (before_zeros pre)) t (run p s l pre).last
    (h.keeps.states ∙ (ap (map (λ b. (run p s l b).last)) z
    ∙ map-append (λ b. (run p s l b).last) (before_zeros pre) (pre ∷ []))) in
    let v = same_front points (map (λ b. (run p s l b).steps) (before_zeros pre)) n (run p s l pre).steps
    (h.keeps.steps ∙ (ap (map (λ b. (run p s l b).steps)) z
    ∙ map-append (λ b. (run p s l b).steps) (before_zeros pre) (pre ∷ []))) in
    record {
      stops =
          wants-stops p s l pre
          (use-wants p s l pre false turn.0 (ap (λ x. (run p s l x).unused) (sym turn.2) ∙ h.whole.all_used));
      state = u.1;
      steps = v.1;
      keeps = record { states = u.0; steps = v.0 };
    }

turn_walks : (s : State) (l : ℕ) (m : Machine) (pre : List Bool) (points : List ℕ) (n : ℕ) →
    AtTurn m.program s l pre m.state n m.marks points → Walks s l m pre points n
turn_walks s l m pre points n h = record {
  leads =
      let p = m.program in
      subst (λ x. Leads p s l pre x n) (sym h.state)
      (subst (λ x. Leads p s l pre (run p s l pre).last x) (sym h.steps) h.stops.leads);
  keeps = h.keeps;
}

-- back, and the statement done
pub turned_back : (l : ℕ) (m m₁ m₂ : Machine) (c pre c' : List Bool) (points points₁ : List ℕ) (n : ℕ) →
    IsMarked l m c points → TurnsAt c pre → points ≡ points₁ ++ n ∷ [] →
    m ≡ record m₁ { state = m.state; marks = m₁.marks ++ m₁.state ∷ [] } →
    c' ≡ pre ++ true ∷ [] → m₂ ≡ after_step true m₁ → TurnsBack l m c points m₂ c' points₁ (n + 1)
turned_back l m m₁ m₂ c pre c' points points₁ n h turn e b d made =
    let q : m.program ≡ m₁.program = ap (λ x. x.program) b in
    let below = unmarked l m m₁ c pre points points₁ n b e turn h in
    let on = chose_one l m₁ m₂ pre c' points₁ n true refl below.below below.choosing made d in
    let at : (s : State) → StandsAfter m.program s l c m.marks points →
    AtTurn m₁.program s l pre m₁.state n m₁.marks points₁ =
    λ s k. at_turn m₁.program s l c pre m₁.marks points₁ m₁.state n
    (subst (λ x. StandsAfter m₁.program s l c (m₁.marks ++ m₁.state ∷ []) x) e
    (subst (λ x. StandsAfter x.program s l c x.marks points) b k)) turn in
    record {
      program = on.program ∙ sym q;
      work = let x = on.work in let y = ap (λ x. x.work) b in omega arith;
      some = omega arith;
      within = on.within;
      marked = on.marked below.rest;
      turned = (
        pre,
        turn,
        d,
        λ s k. (
          on.walks s (turn_walks s l m₁ pre points₁ n (at s k)),
          ap (λ x. x + 1) (at s k).steps ∙ ap (λ x. (run x s l pre).steps + 1) (sym q),
        ),
      );
    }

-- where a list that has zeros is taken off from the end, a zero comes
pub drop_none : (old items ones : List Bool) → AllOnes ones → old ≡ items ++ ones → length items ≡ 0 →
    0 < zeros_in old → ⊥
drop_none old [] ones a e z h = let x : zeros_in old ≡ 0 = ap zeros_in e ∙ zeros-ones ones a in omega arith
drop_none old (x ∷ items) ones a e z h = omega arith
