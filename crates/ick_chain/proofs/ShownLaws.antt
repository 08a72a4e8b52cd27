-- Proves that the choices that are shown lead where they should.
use Prim.Native.Nat.{zero, suc}
use Rattle.std.proofs.Common.{◌≡◌, ◌⊎◌, inl, inr, ℕ, ◌+◌, ◌-◌, ◌<◌, Bool, List, [], ◌∷◌, ◌++◌, Some, None}
use Rattle.std.proofs.Common.{length, slice_get, slice_index_or, refl, ap, sym, ◌∙◌, subst, arith}
use Rattle.std.specs.Global.{Vec}
use Rattle.std.proofs.lemmas.List.{append-nil}
use Rattle.ick_code.specs.meaning.State.{State}
use Rattle.ick_code.specs.meaning.Move.{ended}
use Rattle.ick_outcomes.specs.Programs.{ask, Program, run}
use Rattle.ick_backtrack.specs.Asked.{Finish, finished, at_limit, asked_at_end}
use Rattle.ick_explorer.specs.Lines.{end_text}
use Rattle.ick_explorer.specs.Runs.{Execution, ends, IsEnd}
use Rattle.ick_outcomes.proofs.ProgramRuns.{Leads-ends, run-ended}
use Rattle.ick_outcomes.specs.Tallies.{stop_text}
use Rattle.ick_outcomes.proofs.Lists.{get-mapped}
use Rattle.ick_chain.specs.declared.chain.Node.{Node}
use Rattle.ick_chain.specs.declared.row.Row.{Row as Kept}
use Rattle.ick_chain.specs.Chains.{IsChain, IsClosed, IsStuck}
use Rattle.ick_chain.specs.Limits.{any}
use Rattle.ick_chain.specs.Rows.{Row, row_of, rows_of}
use Rattle.ick_chain.specs.Shown.{LeadTo, LeadToNode, IsShown, NeverEnds, AreShown, choices_of}
use Rattle.ick_chain.proofs.NodeLaws.{stuck-none}

-- choices that lead to a state in which a run ends have its outcome
pub is_shown : (p : Program) (s : State) (c : List Bool) (t : State) (finish : Finish) (output end : List ℕ) →
    LeadTo p s c t → asked_at_end finish ≡ Some (ask p t) → output ≡ t.output → end ≡ end_text finish →
    IsShown p s output end c
is_shown p s c t (finished e) output end h a o w = record {
  least = h.steps;
  has = λ l le.
      let asked : ended e ≡ ask p t = cc in
      let r : run p s l (c ++ []) ≡ record { last = t; stop = ends (finished e); steps = h.steps; unused = [] } =
      Leads-ends p s l c [] t h.steps (finished e) (h.leads l le)
      (λ d. run-ended p t (l - h.steps) d e (sym asked)) in
      let d : run p s l c ≡ record { last = t; stop = ends (finished e); steps = h.steps; unused = [] } =
      ap (run p s l) (sym (append-nil c)) ∙ r in
      record {
        whole = record {
          at_end = subst (λ (x : Execution). IsEnd x.stop) (sym d) tt;
          all_used = ap (λ (x : Execution). x.unused) d;
        };
        same_output = ap (λ (x : Execution). x.last.output) d ∙ sym o;
        same_end = ap (λ (x : Execution). stop_text x.stop) d ∙ sym w;
      };
}
is_shown p s c t at_limit output end h a o w = let z : None ≡ Some (ask p t) = a in cc

pub never_ends : (nodes : List Node) (c : List Bool) (at : ℕ) → IsClosed nodes → LeadToNode nodes c at →
    IsStuck nodes at → (p : Program) (seen : ℕ → State) → IsChain p seen nodes → NeverEnds p (seen 0) c
never_ends nodes c at closed leads stuck p seen chain = record {
  to = seen at;
  leads = leads p seen chain;
  never = λ l. stuck-none p any seen nodes chain closed l at stuck;
}

-- for each row that has choices already, a run that has its outcome
abbrev pub EachShown : Program → State → List Kept → List (Vec Bool) → Type 0
EachShown p s rows shown = (i : ℕ) (r : Row) (d : List Bool) → slice_get (rows_of rows) i ≡ Some r →
    slice_get (choices_of shown) i ≡ Some d → IsShown p s r.output r.end d

pub none_shown : (p : Program) (s : State) (rows : List Kept) → EachShown p s rows []
none_shown p s rows i r d g h = let z : None ≡ Some d = h in cc

got-pushed : (shown : List (Vec Bool)) (c : Vec Bool) (i : ℕ) (d : List Bool) →
    slice_get (choices_of (shown ++ c ∷ [])) i ≡ Some d →
    (slice_get (choices_of shown) i ≡ Some d) ⊎ ((i ≡ length shown) × (d ≡ c.items))
got-pushed [] c zero d h = inr (refl, (let e : c.items ≡ d = cc in sym e))
got-pushed [] c (suc i) d h = let z : None ≡ Some d = h in cc
got-pushed (x ∷ shown) c zero d h = inl h
got-pushed (x ∷ shown) c (suc i) d h =
    elim (got-pushed shown c i d h) [ inl k ↦ inl k | inr k ↦ inr (ap suc k.0, k.1) ]

pub shown_push : (p : Program) (s : State) (rows : List Kept) (shown new : List (Vec Bool)) (c : Vec Bool) (row : Kept)
    (k : ℕ) → length shown ≡ k → k < length rows → row ≡ slice_index_or rows k row →
    IsShown p s row.output.items row.end.items c.items → new ≡ shown ++ c ∷ [] → EachShown p s rows shown →
    EachShown p s rows new
shown_push p s rows shown new c row k long lt is h e f =
    subst (λ z. EachShown p s rows z) (sym e)
    (λ i r d g j. elim (got-pushed shown c i d j) [
      | inl o ↦ f i r d g o
      | inr o ↦
          let x : slice_get (rows_of rows) k ≡ Some (row_of row) =
          get-mapped row_of rows k row lt ∙ ap (λ (z : Kept). Some (row_of z)) (sym is) in
          let y : slice_get (rows_of rows) k ≡ Some r = subst (λ z. slice_get (rows_of rows) z ≡ Some r) (o.0 ∙ long) g in
          let w : row_of row ≡ r = (let v : Some (row_of row) ≡ Some r = sym x ∙ y in cc) in
          subst (λ z. IsShown p s r.output r.end z) (sym o.1)
          (subst (λ (z : Row). IsShown p s z.output z.end c.items) w h)
    ])

choices-long : (shown : List (Vec Bool)) → length (choices_of shown) ≡ length shown
choices-long [] = refl
choices-long (x ∷ shown) = ap suc (choices-long shown)

rows-long : (rows : List Kept) → length (rows_of rows) ≡ length rows
rows-long [] = refl
rows-long (x ∷ rows) = ap suc (rows-long rows)

pub are_shown : (p : Program) (s : State) (rows : List Kept) (shown : List (Vec Bool)) → length shown ≡ length rows →
    EachShown p s rows shown → AreShown p s (rows_of rows) (choices_of shown)
are_shown p s rows shown long f =
    record { long = choices-long shown ∙ (long ∙ sym (rows-long rows)); each = f }

pub pushed_long : (shown new : List (Vec Bool)) (c : Vec Bool) (k : ℕ) → length shown ≡ k → new ≡ shown ++ c ∷ [] →
    length new ≡ k + 1
pushed_long shown new c k h e =
    let i = by_list shown in let j : suc (length shown) ≡ k + 1 = omega (arith, h) in
    ap (λ (z : List (Vec Bool)). length z) e ∙ (i ∙ j)
  where
    by_list : (xs : List (Vec Bool)) → length (xs ++ c ∷ []) ≡ suc (length xs)
    by_list [] = refl
    by_list (x ∷ xs) = ap suc (by_list xs)
