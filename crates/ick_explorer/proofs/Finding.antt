-- The run that an explorer comes to is the least one after its position.
use Rattle.std.proofs.Common.{◌≡◌, ℕ, Bool, true, List, [], ◌∷◌, ◌++◌, length, refl, ap, sym}
use Rattle.std.proofs.Common.{◌∙◌, subst, arith, append_assoc}
use Rattle.std.proofs.lemmas.List.{append-nil}
use Rattle.std.specs.Prelude.{Some, None, Result, Ok, Err, IfOk}
use Rattle.ick_code.specs.meaning.State.{State}
use Rattle.ick_backtrack.specs.Machine.{Program, Machine}
use Rattle.ick_backtrack.specs.Asked.{Finish}
use Rattle.ick_explorer.specs.Runs.{run, IsEnd, IsWhole}
use Rattle.ick_explorer.specs.Listings.{IsLeastAfter, common, zeros_in}
use Rattle.ick_explorer.specs.Paths.{Leads}
use Rattle.ick_explorer.specs.Marked.{IsMarked}
use Rattle.ick_explorer.specs.Standing.{Keeps, StandsAfter}
use Rattle.ick_explorer.specs.declared.walk.Way.TheVariants.{Zeros}
use Rattle.ick_explorer.specs.Walks.{Walks, EndsHere, Goes, TurnsBack, Arrives, Finds}
use Rattle.ick_explorer.proofs.RunLaws.{Leads-start, Leads-ends}
use Rattle.ick_explorer.proofs.Orders.{least-first, least-turned, common-turned}

none_of : {A : Type 0} (xs : List A) (n : ℕ) → length xs ≡ n → n ≡ 0 → xs ≡ []
none_of [] n e z = refl
none_of (x ∷ xs) n e z = absurd (omega arith)

-- at the start of all runs from its state a machine without marks stands in the run of no choices
pub walks_start : (l : ℕ) (m : Machine) (c : List Bool) (points : List ℕ) → c ≡ [] → IsMarked l m c points →
    Walks m.state l m c points 0
walks_start l m c points e h = record {
  leads = subst (λ x. Leads m.program m.state l x m.state 0) (sym e) (Leads-start m.program m.state l);
  keeps = subst (λ x. Keeps m.program m.state l x m.marks points) (sym e) (record {
    states = none_of m.marks (zeros_in c) h.marked (ap zeros_in e);
    steps = none_of points (zeros_in c) h.counted (ap zeros_in e);
  });
}

pub arrives : (s : State) (l : ℕ) (p : Program) (m : Machine) (c : List Bool) (points : List ℕ) (n : ℕ)
    (f : Finish) → m.program ≡ p → Walks s l m c points n → EndsHere l m n f → Arrives p s l c m.state n f
arrives s l p m c points n f e w here = record {
  is =
      ap (λ q. run q s l c) (sym e)
      ∙ (ap (run m.program s l) (sym (append-nil c)) ∙ Leads-ends s l m c [] n f w.leads here);
}

-- so c is whole, and the explorer stands after it
pub arrived : (s : State) (l : ℕ) (p : Program) (m : Machine) (c : List Bool) (points : List ℕ) (n : ℕ)
    (f : Finish) → m.program ≡ p → Walks s l m c points n → Arrives p s l c m.state n f →
    StandsAfter p s l c m.marks points
arrived s l p m c points n f e w a = record {
  whole = record {
    at_end = subst (λ r. IsEnd r.stop) (sym a.is) tt;
    all_used = ap (λ r. r.unused) a.is;
  };
  keeps = subst (λ q. Keeps q s l c m.marks points) e w.keeps;
}

-- what a clause says of an answer that is no error
pub ok_so : {T E : Type 0} {P Q : T → Type 0} (r : Result T E) → ((x : T) → P x → Q x) → IfOk r P → IfOk r Q
ok_so (Ok x) f p = f x p
ok_so (Err e) f p = tt

pub finds_first : (l : ℕ) (m m' : Machine) (c c' : List Bool) (points points' : List ℕ) (n : ℕ) (f : Finish) →
    c ≡ [] → IsMarked l m c points → Goes Zeros l m c points 0 m' c' points' n → EndsHere l m' n f →
    Finds m.state l None m m' c' points' n f
finds_first l m m' c c' points points' n f hc h down here =
    let p = m.program in
    let s = m.state in
    let w = down.moves.walks s (walks_start l m c points hc h) in
    let a = arrives s l p m' c' points' n f down.moves.program w here in
    let stands = arrived s l p m' c' points' n f down.moves.program w a in
    let z : c' ≡ down.taken.0 = down.taken.2 ∙ ap (λ x. x ++ down.taken.0) hc in
    record {
      least = subst (IsLeastAfter p s l None) (sym z)
          (least-first p s l down.taken.0 down.taken.1 (subst (IsWhole p s l) z stands.whole));
      arrives = a;
      stands = stands;
      work = let x = down.moves.work in omega arith;
    }

pub finds_next : (l : ℕ) (m m₁ m' : Machine) (c c₁ c' : List Bool) (points points₁ points' : List ℕ)
    (k n : ℕ) (f : Finish) → TurnsBack l m c points m₁ c₁ points₁ k →
    Goes Zeros l m₁ c₁ points₁ k m' c' points' n → EndsHere l m' n f →
    (s : State) → StandsAfter m.program s l c m.marks points → Finds s l (Some c) m m' c' points' n f
finds_next l m m₁ m' c c₁ c' points points₁ points' k n f back down here s h =
    let p = m.program in
    let pre = back.turned.0 in
    let turn = back.turned.1 in
    let both = back.turned.3 s h in
    let w = down.moves.walks s both.0 in
    let q : m'.program ≡ p = down.moves.program ∙ back.program in
    let a = arrives s l p m' c' points' n f q w here in
    let stands = arrived s l p m' c' points' n f q w a in
    let z = down.taken.0 in
    let d : c' ≡ pre ++ true ∷ z =
    down.taken.2 ∙ (ap (λ x. x ++ z) back.turned.2 ∙ append_assoc pre (true ∷ []) z) in
    let shared : (run p s l (common c c')).steps ≡ (run p s l pre).steps =
    ap (λ x. (run p s l x).steps)
    (ap (common c) d ∙ (ap (λ x. common x (pre ++ true ∷ z)) turn.2 ∙ common-turned pre turn.0 z)) in
    record {
      least = subst (IsLeastAfter p s l (Some c)) (sym d)
          (least-turned p s l c pre z turn down.taken.1 (subst (IsWhole p s l) d stands.whole));
      arrives = a;
      stands = stands;
      work = let x = down.moves.work in let u = back.work in let v = both.1 in omega arith;
    }
