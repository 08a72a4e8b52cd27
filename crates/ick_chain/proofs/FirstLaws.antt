-- Proves that the runs that are shown for rows with counts are the first in the order of listings.
use Prim.Native.Nat.{zero, suc}
use Rattle.std.proofs.Common.{◌≡◌, ◌⊎◌, inl, inr, ℕ, ◌+◌, ◌-◌, ◌<◌, ◌≤◌, Bool, true, false, List, [], ◌∷◌, ◌++◌}
use Rattle.std.proofs.Common.{Option, Some, None, length, take, slice_get, slice_index_or, refl, ap, sym, ◌∙◌, subst}
use Rattle.std.proofs.Common.{append_assoc, arith}
use Rattle.std.specs.Option.{is_some}
use Rattle.std.specs.Prelude.{option_map}
use Rattle.std.specs.Global.{Vec}
use Rattle.std.proofs.lemmas.List.{append-nil}
use Rattle.ick_code.specs.meaning.State.{State, Ending}
use Rattle.ick_code.specs.meaning.Move.{choice, ended}
use Rattle.ick_outcomes.specs.Programs.{ask, Program}
use Rattle.ick_outcomes.proofs.Lists.{get-mapped, take-all, take-more}
use Rattle.ick_outcomes.proofs.ProgramRuns.{chance_between, run-ended, run-wants}
use Rattle.ick_backtrack.specs.Asked.{at_limit}
use Rattle.ick_explorer.specs.Lines.{end_text}
use Rattle.ick_explorer.specs.Order.{IsBelow}
use Rattle.ick_explorer.specs.Runs.{Execution, IsEnd}
use Rattle.ick_numbers.specs.Values.{natural}
use Rattle.ick_numbers.specs.declared.natural.Natural.{Natural}
use Rattle.ick_chain.specs.declared.chain.Fork.{Fork}
use Rattle.ick_chain.specs.declared.chain.Node.{Node}
use Rattle.ick_chain.specs.declared.chain.Node.TheVariants.{Ends, Goes, Stuck}
use Rattle.ick_chain.specs.declared.row.Row.{Row as Kept}
use Rattle.ick_chain.specs.Counts.{counts_of}
use Rattle.ick_chain.specs.FirstRuns.{IsSoonest}
use Rattle.ick_chain.specs.Firsts.{AreSoonest, HasNoCount, IsNumberedBy}
use Rattle.ick_chain.specs.declared.firsts.Numbered.{Numbered}
use Rattle.ick_chain.specs.Lasts.{AreBarred, AreLasts, GoesOn, IsLast, LeadFirst, LeadsFirst, ShowSoonest, last_of}
use Rattle.ick_chain.specs.Places.{Forks, IsFull, Tells}
use Rattle.ick_chain.specs.Ranks.{AreNumbered}
use Rattle.ick_chain.specs.Rows.{Row, AreDistinct, SameRow, row_of, rows_of}
use Rattle.ick_chain.specs.Shown.{IsShown, choices_of}
use Rattle.ick_chain.specs.Ways.{IsForkOf, IsWay, edge_of}
use Rattle.ick_chain.proofs.Coming.{comes, shown_choice, shown_plain}
use Rattle.ick_chain.proofs.FewestLaws.{same-row}
use Rattle.ick_chain.proofs.RowLaws.{got_at}

-- the order of lists
below-longer : (c d e : List Bool) → IsBelow c d → IsBelow (c ++ e) d
below-longer [] d e h = absurd h
below-longer (x ∷ c) [] e h = absurd h
below-longer (false ∷ c) (false ∷ d) e h = below-longer c d e h
below-longer (true ∷ c) (true ∷ d) e h = below-longer c d e h
below-longer (false ∷ c) (true ∷ d) e h = tt
below-longer (true ∷ c) (false ∷ d) e h = absurd h

below-turn : (c d : List Bool) → IsBelow (c ++ false ∷ []) (c ++ true ∷ d)
below-turn [] d = tt
below-turn (false ∷ c) d = below-turn c d
below-turn (true ∷ c) d = below-turn c d

-- a state that asks for a choice has no run without one, and one that has ended has no run with one
not-empty : (p : Program) (t : State) (n : ℕ) (output end : List ℕ) → ask p t ≡ choice n → IsShown p t output end [] → ⊥
not-empty p t n output end a h =
    let o = h.has (suc h.least) (omega arith) in
    subst (λ (r : Execution). IsEnd r.stop) (run-wants p t h.least n a) o.whole.at_end

empty : (p : Program) (t : State) (e : Ending) (output end : List ℕ) (d : List Bool) → ask p t ≡ ended e →
    IsShown p t output end d → d ≡ []
empty p t e output end d a h =
    let o = h.has h.least (omega arith) in
    sym (ap (λ (r : Execution). r.unused) (run-ended p t h.least d e a)) ∙ o.whole.all_used

-- what a node says of its fork
forks-of : (p : Program) (ss : List State) (s : State) (n : Node) (f : Fork) → IsForkOf n f → Tells p ss s n →
    Forks p ss s f
forks-of p ss s Ends f h t = absurd h
forks-of p ss s (Goes g) f h t = subst (Forks p ss s) h t
forks-of p ss s (Stuck g) f h t = subst (Forks p ss s) h t

-- the way begins
pub first_start : (nodes : List Node) (lasts : List ℕ) (least : ℕ) (cs : List Bool) →
    LeadFirst nodes lasts least (take 0 cs) 0
first_start nodes lasts least [] p ss s output end full begins barred = record {
  to = s;
  there = begins;
  each = λ d h. inl (record { rest = d; is = refl; shown = h });
}
first_start nodes lasts least (b ∷ cs) p ss s output end full begins barred = record {
  to = s;
  there = begins;
  each = λ d h. inl (record { rest = d; is = refl; shown = h });
}

-- the way goes on where nothing is asked
first-pass : (nodes : List Node) (lasts : List ℕ) (least : ℕ) (c : List Bool) (at : ℕ) (n : Node) (f : Fork) →
    slice_get nodes at ≡ Some n → IsForkOf n f → f.chance ≡ 0 → LeadFirst nodes lasts least c at →
    LeadFirst nodes lasts least c f.zero.to
first-pass nodes lasts least c at n f g fk z h p ss s output end full begins barred =
    let l = h p ss s output end full begins barred in
    by_fork l (forks-of p ss l.to n f fk (full.each at n l.to g l.there))
  where
    by_fork : (l : LeadsFirst p ss s output end c at) → Forks p ss l.to f →
        LeadsFirst p ss s output end c f.zero.to
    by_fork l (inl k) =
        let b = chance_between p l.to f.chance k.asks in absurd (let y : ⊥ = omega (arith, b.0, z) in y)
    by_fork l (inr k) = record {
      to = k.zero.to;
      there = k.zero.there;
      each = λ d m. elim (l.each d m) [
        | inl o ↦ inl (record {
          rest = o.rest;
          is = o.is;
          shown = shown_plain p l.to k.zero.to (f.zero.steps - 1) output end o.rest k.asks k.zero.runs o.shown;
        })
        | inr o ↦ inr o
      ];
    }

-- the way goes on by a choice: a choice of 1 only if no run with the outcome begins with 0 there
first-choose : (nodes : List Node) (lasts : List ℕ) (least : ℕ) (c : List Bool) (at : ℕ) (n : Node) (f : Fork)
    (b : Bool) → slice_get nodes at ≡ Some n → IsForkOf n f → (f.chance ≡ 0 → ⊥) →
    (b ≡ true → last_of lasts f.zero.to < least) → LeadFirst nodes lasts least c at →
    LeadFirst nodes lasts least (c ++ b ∷ []) (edge_of f b).to
first-choose nodes lasts least c at n f b g fk z lt h p ss s output end full begins barred =
    let l = h p ss s output end full begins barred in
    by_fork b lt l (forks-of p ss l.to n f fk (full.each at n l.to g l.there))
  where
    by_fork : (b : Bool) → (b ≡ true → last_of lasts f.zero.to < least) → (l : LeadsFirst p ss s output end c at) →
        Forks p ss l.to f → LeadsFirst p ss s output end (c ++ b ∷ []) (edge_of f b).to
    by_fork b lt l (inr k) = absurd (z k.chance)
    by_fork false lt l (inl k) = record {
      to = k.zero.to;
      there = k.zero.there;
      each = λ d m. elim (l.each d m) [
        | inl o ↦ by_rest d o.rest o.is o.shown
        | inr o ↦ inr (below-longer c d (false ∷ []) o)
      ];
    }
      where
        by_rest : (d rest : List Bool) → c ++ rest ≡ d → IsShown p l.to output end rest →
            GoesOn p k.zero.to output end (c ++ false ∷ []) d ⊎ IsBelow (c ++ false ∷ []) d
        by_rest d [] is m = absurd (not-empty p l.to f.chance output end k.asks m)
        by_rest d (false ∷ r) is m = inl (record {
          rest = r;
          is = append_assoc c (false ∷ []) r ∙ is;
          shown = shown_choice p l.to k.zero.to (f.zero.steps - 1) f.chance output end false r k.asks k.zero.runs m;
        })
        by_rest d (true ∷ r) is m = inr (subst (IsBelow (c ++ false ∷ [])) is (below-turn c r))
    by_fork true lt l (inl k) = record {
      to = k.one.to;
      there = k.one.there;
      each = λ d m. elim (l.each d m) [
        | inl o ↦ by_rest d o.rest o.is o.shown
        | inr o ↦ inr (below-longer c d (true ∷ []) o)
      ];
    }
      where
        by_rest : (d rest : List Bool) → c ++ rest ≡ d → IsShown p l.to output end rest →
            GoesOn p k.one.to output end (c ++ true ∷ []) d ⊎ IsBelow (c ++ true ∷ []) d
        by_rest d [] is m = absurd (not-empty p l.to f.chance output end k.asks m)
        by_rest d (true ∷ r) is m = inl (record {
          rest = r;
          is = append_assoc c (true ∷ []) r ∙ is;
          shown = shown_choice p l.to k.one.to (f.one.steps - 1) f.chance output end true r k.asks k.one.runs m;
        })
        by_rest d (false ∷ r) is m =
            absurd (barred f.zero.to k.zero.to r k.zero.there (lt refl)
            (shown_choice p l.to k.zero.to (f.zero.steps - 1) f.chance output end false r k.asks k.zero.runs m))

pub first_pass : (nodes : List Node) (lasts : List ℕ) (least : ℕ) (c : List Bool) (at : ℕ) (d : Node) (f : Fork) →
    at < length nodes → IsForkOf (slice_index_or nodes at d) f → f.chance ≡ 0 →
    LeadFirst nodes lasts least c at → LeadFirst nodes lasts least c f.zero.to
first_pass nodes lasts least c at d f lt fk z h =
    first-pass nodes lasts least c at (slice_index_or nodes at d) f (got_at nodes at d lt) fk z h

pub first_choose : (nodes : List Node) (lasts : List ℕ) (least : ℕ) (cs : List Bool) (used at to : ℕ) (d : Node)
    (f : Fork) (b : Bool) → at < length nodes → IsForkOf (slice_index_or nodes at d) f →
    (f.chance ≡ 0 → ⊥) → used < length cs → b ≡ slice_index_or cs used false → to ≡ (edge_of f b).to →
    (b ≡ true → last_of lasts f.zero.to < least) → LeadFirst nodes lasts least (take used cs) at →
    LeadFirst nodes lasts least (take (used + 1) cs) to
first_choose nodes lasts least cs used at to d f b lt fk z lu eb is ahead h =
    let m : take (used + 1) cs ≡ take used cs ++ b ∷ [] =
    (let k : used + 1 ≡ suc used = omega arith in ap (λ x. take x cs) k)
    ∙ (take-more cs used false lu ∙ ap (λ x. take used cs ++ x ∷ []) (sym eb)) in
    subst (λ x. LeadFirst nodes lasts least x to) (sym m)
    (subst (LeadFirst nodes lasts least (take used cs ++ b ∷ [])) (sym is)
    (first-choose nodes lasts least (take used cs) at (slice_index_or nodes at d) f b (got_at nodes at d lt) fk z ahead
    h))

-- the way ends
pub first_done : (nodes : List Node) (lasts : List ℕ) (least : ℕ) (cs : List Bool) (used at : ℕ) →
    LeadFirst nodes lasts least (take used cs) at → slice_get nodes at ≡ Some Ends → used ≡ length cs →
    ShowSoonest nodes lasts least cs
first_done nodes lasts least cs used at h g e p ss s output end full begins barred d m =
    let l = subst (λ x. LeadsFirst p ss s output end x at) (take-all cs used (omega (arith, e)))
    (h p ss s output end full begins barred) in
    let t = full.each at Ends l.to g l.there in
    elim (l.each d m) [
      | inl o ↦ inl (sym (append-nil cs)
          ∙ (ap (λ z. cs ++ z) (sym (empty p l.to t.0 output end o.rest t.1 o.shown)) ∙ o.is))
      | inr o ↦ inr o
    ]

-- numbers that don't grow along the edges
abbrev pub AreLastsBelow : List Node → List ℕ → ℕ → Type 0
AreLastsBelow nodes lasts k = (i : ℕ) (n : Node) (f : Fork) → i < k → slice_get nodes i ≡ Some n → IsForkOf n f →
    IsLast lasts i f

split : (i k : ℕ) → i < k + 1 → (i < k) ⊎ (i ≡ k)
split zero zero lt = inr refl
split zero (suc k) lt = inl (omega arith)
split (suc i) zero lt = absurd (omega (arith, lt))
split (suc i) (suc k) lt = elim (split i k (omega (arith, lt))) [
  | inl x ↦ inl (omega (arith, x))
  | inr e ↦ inr (ap suc e)
]

below-length : {A : Type 0} (xs : List A) (i : ℕ) (x : A) → slice_get xs i ≡ Some x → i < length xs
below-length [] i x h = let z : None ≡ Some x = h in cc
below-length (y ∷ xs) zero x h = omega arith
below-length (y ∷ xs) (suc i) x h = let k = below-length xs i x h in omega (arith, k)

pub lasts_more : (nodes : List Node) (lasts : List ℕ) (k : ℕ) (d : Node) → k < length nodes →
    ((f : Fork) → IsForkOf (slice_index_or nodes k d) f → IsLast lasts k f) → AreLastsBelow nodes lasts k →
    AreLastsBelow nodes lasts (k + 1)
lasts_more nodes lasts k d lt h below i m f le g fk = elim (split i k le) [
  | inl x ↦ below i m f x g fk
  | inr x ↦
      let g' = subst (λ z. slice_get nodes z ≡ Some m) x g in
      let n = slice_index_or nodes k d in
      let same : m ≡ n = (let v : Some m ≡ Some n = sym g' ∙ got_at nodes k d lt in cc) in
      subst (λ z. IsLast lasts z f) (sym x) (h f (subst (λ z. IsForkOf z f) same fk))
]

pub lasts_all : (nodes : List Node) (lasts : List ℕ) (k : ℕ) → length nodes ≤ k → AreLastsBelow nodes lasts k →
    AreLasts nodes lasts
lasts_all nodes lasts k le h i n f g fk = let l = below-length nodes i n g in h i n f (omega (arith, l, le)) g fk

-- a run with the outcome of a row begins at no node with a lower number than that of the row
Reach : List ℕ → ℕ → ℕ → Type 0
Reach lasts least i = least ≤ last_of lasts i

Any : List Bool → List Bool → Type 0
Any c d = Unit {0}

reach-way : (nodes : List Node) (lasts : List ℕ) (least : ℕ) → AreLasts nodes lasts → (i : ℕ) (n : Node) (f : Fork) →
    slice_get nodes i ≡ Some n → IsForkOf n f → IsWay (Reach lasts least) Any (λ j. []) i f
unfolding Reach Any
reach-way nodes lasts least h i n f g fk = record {
  plain_way = λ z le. (let a = (h i n f g fk).zero in omega (arith, a, le), tt);
  choice_way = by_choice;
}
  where
    by_choice : (f.chance ≡ 0 → ⊥) → (b : Bool) → least ≤ last_of lasts (edge_of f b).to →
        (least ≤ last_of lasts i) × Unit {0}
    by_choice z false le = (let a = (h i n f g fk).zero in omega (arith, a, le), tt)
    by_choice z true le = (let a = (h i n f g fk).one z in omega (arith, a, le), tt)

pub barred : (p : Program) (ss : List State) (nodes : List Node) (lasts : List ℕ) (rows : List Kept) (at : ℕ)
    (k : Kept) → IsFull p ss nodes → AreLasts nodes lasts → AreDistinct (rows_of rows) →
    AreNumbered p ss nodes lasts rows → slice_get rows at ≡ Some k → (k.end.items ≡ end_text at_limit → ⊥) →
    AreBarred p ss lasts k.rank.breadth k.output.items k.end.items
unfolding Reach Any
barred p ss nodes lasts rows at k full are distinct numbered g not_limit i t d st lt h =
    let m = comes p ss nodes full (Reach lasts k.rank.breadth) Any (λ j. []) (λ c. tt) (λ c d e x y. tt)
    (λ c d e x. tt) (reach-way nodes lasts k.rank.breadth are) k.output.items k.end.items not_limit i t d st h in
    let r = numbered m.at m.state m.ending m.node m.there m.asks in
    let same = same-row rows distinct r.at at r.row k r.there g (r.same_output ∙ m.same_output)
    (r.same_end ∙ m.same_end) in
    let rank = ap (λ (z : Kept). z.rank.breadth) same in
    let le = r.least in
    let back = (m.back (omega (arith, rank, le))).0 in
    let y : ⊥ = omega (arith, back, lt) in y

got-row : {A : Type 0} (xs : List A) (i : ℕ) (x : A) → i < length xs → x ≡ slice_index_or xs i x →
    slice_get xs i ≡ Some x
got-row [] i x lt e = absurd (let z : ⊥ = omega (arith, lt) in z)
got-row (y ∷ xs) zero x lt e = ap Some (sym e)
got-row (y ∷ xs) (suc i) x lt e = got-row xs i x (omega (arith, lt)) e

-- no run comes before choices that are shown by the number of a row
pub row_soonest : (p : Program) (ss : List State) (nodes : List Node) (numbered : Numbered) (s : State) (at : ℕ)
    (k row : Kept) (c : List Bool) → IsFull p ss nodes → slice_get ss 0 ≡ Some s → IsNumberedBy p ss nodes numbered →
    at < length numbered.rows.items → k ≡ slice_index_or numbered.rows.items at k → SameRow (row_of k) (row_of row) →
    (row.end.items ≡ end_text at_limit → ⊥) → ShowSoonest nodes numbered.lasts.items k.rank.breadth c →
    IsSoonest p s row.output.items row.end.items c
row_soonest p ss nodes numbered s at k row c full begins by lt e same not_limit h =
    let g = got-row numbered.rows.items at k lt e in
    let ended : k.end.items ≡ end_text at_limit → ⊥ = λ x. not_limit (sym same.same_end ∙ x) in
    subst (λ z. IsSoonest p s z row.end.items c) same.same_output
    (subst (λ z. IsSoonest p s k.output.items z c) same.same_end
    (h p ss s k.output.items k.end.items full begins
    (barred p ss nodes numbered.lasts.items numbered.rows.items at k full by.lasts by.distinct by.ranked g ended)))

-- the rows before an index
abbrev pub AreSoonestBelow : Program → State → List Kept → List (Option Natural) → List (Vec Bool) → ℕ → Type 0
AreSoonestBelow p s rows counts shown k = (i n : ℕ) (r : Row) (c : List Bool) → i < k →
    slice_get (rows_of rows) i ≡ Some r → slice_get (counts_of counts) i ≡ Some (Some n) →
    slice_get (choices_of shown) i ≡ Some c → IsSoonest p s r.output r.end c

pub soonest_more : (p : Program) (s : State) (rows : List Kept) (counts : List (Option Natural))
    (shown : List (Vec Bool)) (k : ℕ) (row : Kept) (count : Option Natural) (choices : Vec Bool) → k < length rows →
    k < length counts → k < length shown → row ≡ slice_index_or rows k row → count ≡ slice_index_or counts k count →
    choices ≡ slice_index_or shown k choices →
    ((n : ℕ) → option_map natural count ≡ Some n → IsSoonest p s row.output.items row.end.items choices.items) →
    AreSoonestBelow p s rows counts shown k → AreSoonestBelow p s rows counts shown (k + 1)
soonest_more p s rows counts shown k row count choices lr lc ls er ec es h f i n r c lt gr gc gs =
    by_place (split i k lt)
  where
    by_place : (i < k) ⊎ (i ≡ k) → IsSoonest p s r.output r.end c
    by_place (inl below) = f i n r c below gr gc gs
    by_place (inr e) =
        let gr' : slice_get (rows_of rows) k ≡ Some r = subst (λ z. slice_get (rows_of rows) z ≡ Some r) e gr in
        let gc' : slice_get (counts_of counts) k ≡ Some (Some n) =
        subst (λ z. slice_get (counts_of counts) z ≡ Some (Some n)) e gc in
        let gs' : slice_get (choices_of shown) k ≡ Some c = subst (λ z. slice_get (choices_of shown) z ≡ Some c) e gs in
        let x : Some (row_of row) ≡ Some r =
        ap (λ (z : Kept). Some (row_of z)) er ∙ (sym (get-mapped row_of rows k row lr) ∙ gr') in
        let y : Some (option_map natural count) ≡ Some (Some n) =
        ap (λ (z : Option Natural). Some (option_map natural z)) ec
        ∙ (sym (get-mapped (λ n. option_map natural n) counts k count lc) ∙ gc') in
        let w : Some choices.items ≡ Some c =
        ap (λ (z : Vec Bool). Some z.items) es
        ∙ (sym (get-mapped (λ (z : Vec Bool). z.items) shown k choices ls) ∙ gs') in
        let x' : row_of row ≡ r = cc in
        let y' : option_map natural count ≡ Some n = cc in
        let w' : choices.items ≡ c = cc in
        subst (λ (z : Row). IsSoonest p s z.output z.end c) x'
        (subst (IsSoonest p s row.output.items row.end.items) w' (h n y'))

rows-long : (rows : List Kept) → length (rows_of rows) ≡ length rows
rows-long [] = refl
rows-long (x ∷ rows) = ap suc (rows-long rows)

pub soonest_all : (p : Program) (s : State) (rows : List Kept) (counts : List (Option Natural))
    (shown : List (Vec Bool)) (k : ℕ) → length rows ≤ k → AreSoonestBelow p s rows counts shown k →
    AreSoonest p s (rows_of rows) (counts_of counts) (choices_of shown)
soonest_all p s rows counts shown k le f i n r c gr gc gs =
    let a = below-length (rows_of rows) i r gr in
    let b = rows-long rows in
    f i n r c (omega (arith, a, b, le)) gr gc gs

-- no row before an index has a count
abbrev pub HasNoCountBelow : List (Option Natural) → ℕ → Type 0
HasNoCountBelow counts k = (i n : ℕ) → i < k → slice_get (counts_of counts) i ≡ Some (Some n) → ⊥

pub counts_none : (counts : List (Option Natural)) → HasNoCountBelow counts 0
counts_none counts i n lt g = let y : ⊥ = omega (arith, lt) in y

pub counts_more : (counts : List (Option Natural)) (k : ℕ) (count : Option Natural) → k < length counts →
    count ≡ slice_index_or counts k count → ((n : ℕ) → option_map natural count ≡ Some n → ⊥) →
    HasNoCountBelow counts k → HasNoCountBelow counts (k + 1)
counts_more counts k count lt e h f i n le g = elim (split i k le) [
  | inl x ↦ f i n x g
  | inr x ↦
      let g' : slice_get (counts_of counts) k ≡ Some (Some n) =
      subst (λ z. slice_get (counts_of counts) z ≡ Some (Some n)) x g in
      let y : Some (option_map natural count) ≡ Some (Some n) =
      ap (λ (z : Option Natural). Some (option_map natural z)) e
      ∙ (sym (get-mapped (λ n. option_map natural n) counts k count lt) ∙ g') in
      let y' : option_map natural count ≡ Some n = cc in
      h n y'
]

pub uncounted : (count : Option Natural) → is_some count ≡ false → (n : ℕ) → option_map natural count ≡ Some n → ⊥
uncounted None e n h = let z : None ≡ Some n = h in cc
uncounted (Some x) e n h = let z : true ≡ false = e in cc

counts-long : (counts : List (Option Natural)) → length (counts_of counts) ≡ length counts
counts-long [] = refl
counts-long (x ∷ counts) = ap suc (counts-long counts)

pub counts_all : (counts : List (Option Natural)) (k : ℕ) → length counts ≤ k → HasNoCountBelow counts k →
    HasNoCount counts
counts_all counts k le f i n g =
    let a = below-length (counts_of counts) i (Some n) g in
    let b = counts-long counts in
    f i n (omega (arith, a, b, le)) g

pub none_soonest : (p : Program) (s : State) (rows : List Row) (counts : List (Option Natural))
    (shown : List (List Bool)) → HasNoCount counts → AreSoonest p s rows (counts_of counts) shown
none_soonest p s rows counts shown h i n r c gr gc gs = absurd (h i n gc)
