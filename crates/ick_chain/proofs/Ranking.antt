-- Proves that rows keep the least ranks.
use Prim.Native.Nat.{zero, suc}
use Rattle.std.proofs.Common.{◌≡◌, ◌⊎◌, inl, inr, ℕ, ◌+◌, ◌<◌, ◌≤◌, List, [], ◌∷◌, ◌++◌, Some, None, length}
use Rattle.std.proofs.Common.{slice_get, slice_set, slice_index_or, refl, ap, sym, ◌∙◌, subst, arith}
use Rattle.ick_code.specs.meaning.State.{State, Ending}
use Rattle.ick_code.specs.meaning.Move.{Asking, ended}
use Rattle.ick_outcomes.specs.Programs.{ask, Program}
use Rattle.ick_backtrack.specs.Asked.{Finish, finished, at_limit, asked_at_end}
use Rattle.ick_explorer.specs.Lines.{end_text}
use Rattle.ick_chain.specs.declared.chain.Node.{Node}
use Rattle.ick_chain.specs.declared.chain.Node.TheVariants.{Ends}
use Rattle.ick_chain.specs.declared.row.Row.{Row}
use Rattle.ick_chain.specs.declared.ways.Rank.{Rank}
use Rattle.ick_chain.specs.Ranks.{AreNumbered, AreRanked, HasRank, HaveNumbers, IsEnd, IsRankedRow}
use Rattle.ick_chain.specs.Rows.{SameRow, row_of}
use Rattle.ick_chain.proofs.RowTables.{adds_new, adds_at, indexed_push, indexed_set}

got-more : (rs : List Row) (x : Row) (i : ℕ) (r : Row) → slice_get rs i ≡ Some r → slice_get (rs ++ x ∷ []) i ≡ Some r
got-more [] x i r h = let z : None ≡ Some r = h in cc
got-more (y ∷ rs) x zero r h = h
got-more (y ∷ rs) x (suc i) r h = got-more rs x i r h

got-last : (rs : List Row) (x : Row) → slice_get (rs ++ x ∷ []) (length rs) ≡ Some x
got-last [] x = refl
got-last (y ∷ rs) x = got-last rs x

got-set : (rs : List Row) (i : ℕ) (x : Row) → i < length rs → slice_get (slice_set rs i x) i ≡ Some x
got-set [] i x lt = absurd (let z : ⊥ = omega (arith, lt) in z)
got-set (y ∷ rs) zero x lt = refl
got-set (y ∷ rs) (suc i) x lt = got-set rs i x (omega (arith, lt))

got-kept : (rs : List Row) (i j : ℕ) (x r : Row) → slice_get rs j ≡ Some r →
    (slice_get (slice_set rs i x) j ≡ Some r) ⊎ (j ≡ i)
got-kept [] i j x r h = let z : None ≡ Some r = h in cc
got-kept (y ∷ rs) zero zero x r h = inr refl
got-kept (y ∷ rs) zero (suc j) x r h = inl h
got-kept (y ∷ rs) (suc i) zero x r h = inl h
got-kept (y ∷ rs) (suc i) (suc j) x r h = elim (got-kept rs i j x r h) [ inl k ↦ inl k | inr k ↦ inr (ap suc k) ]

got-or : (rs : List Row) (i : ℕ) (r d : Row) → slice_get rs i ≡ Some r → slice_index_or rs i d ≡ r
got-or [] i r d h = let z : None ≡ Some r = h in cc
got-or (y ∷ rs) zero r d h = let e : y ≡ r = cc in e
got-or (y ∷ rs) (suc i) r d h = got-or rs i r d h

pub rank_push : (rs new : List Row) (more : Row) (o e : List ℕ) (k : ℕ) → new ≡ rs ++ more ∷ [] →
    HasRank rs o e k → HasRank new o e k
rank_push rs new more o e k is h = record {
  at = h.at;
  row = h.row;
  there = subst (λ z. slice_get z h.at ≡ Some h.row) (sym is) (got-more rs more h.at h.row h.there);
  same_output = h.same_output;
  same_end = h.same_end;
  least = h.least;
}

pub rank_pushed : (rs new : List Row) (more : Row) → new ≡ rs ++ more ∷ [] →
    HasRank new more.output.items more.end.items more.rank.breadth
rank_pushed rs new more is = record {
  at = length rs;
  row = more;
  there = subst (λ z. slice_get z (length rs) ≡ Some more) (sym is) (got-last rs more);
  same_output = refl;
  same_end = refl;
  least = omega arith;
}

pub rank_set : (rs : List Row) (i : ℕ) (old new : Row) (o e : List ℕ) (k : ℕ) → i < length rs →
    old ≡ slice_index_or rs i old → new.output.items ≡ old.output.items → new.end.items ≡ old.end.items →
    new.rank.breadth ≤ old.rank.breadth → HasRank rs o e k → HasRank (slice_set rs i new) o e k
rank_set rs i old new o e k lt is a b le h = by_place (got-kept rs i h.at new h.row h.there)
  where
    by_place : (slice_get (slice_set rs i new) h.at ≡ Some h.row) ⊎ (h.at ≡ i) → HasRank (slice_set rs i new) o e k
    by_place (inl g) = record {
      at = h.at;
      row = h.row;
      there = g;
      same_output = h.same_output;
      same_end = h.same_end;
      least = h.least;
    }
    by_place (inr g) =
        let same : old ≡ h.row =
        is ∙ (sym (ap (λ z. slice_index_or rs z old) g) ∙ got-or rs h.at h.row old h.there) in
        let n = ap (λ (z : Row). z.rank.breadth) same in
        let l = h.least in
        record {
          at = i;
          row = new;
          there = got-set rs i new lt;
          same_output = a ∙ (ap (λ (z : Row). z.output.items) same ∙ h.same_output);
          same_end = b ∙ (ap (λ (z : Row). z.end.items) same ∙ h.same_end);
          least = omega (arith, le, n, l);
        }

pub rank_at : (rs : List Row) (i : ℕ) (more old new : Row) → i < length rs →
    ((d : Row) → SameRow (row_of (slice_index_or rs i d)) (row_of more)) → old ≡ slice_index_or rs i old →
    new.output.items ≡ old.output.items → new.end.items ≡ old.end.items → new.rank.breadth ≤ more.rank.breadth →
    HasRank (slice_set rs i new) more.output.items more.end.items more.rank.breadth
rank_at rs i more old new lt m is a b le =
    let s : SameRow (row_of old) (row_of more) = subst (λ x. SameRow (row_of x) (row_of more)) (sym is) (m old) in
    record {
      at = i;
      row = new;
      there = got-set rs i new lt;
      same_output = a ∙ s.same_output;
      same_end = b ∙ s.same_end;
      least = le;
    }

-- the lemmas on rows, their index and ranks that a function uses together
pub ruleset filing = (adds_new, adds_at, indexed_push, indexed_set, rank_push, rank_pushed, rank_set, rank_at)

-- the end of a run that has ended is the one that is asked
pub end_is : (finish : Finish) (a : Asking) (e : Ending) → asked_at_end finish ≡ Some a → a ≡ ended e →
    end_text finish ≡ end_text (finished e)
end_is (finished x) a e h k =
    let z : ended x ≡ a = cc in let w : ended x ≡ ended e = z ∙ k in let v : x ≡ e = cc in
    ap (λ i. end_text (finished i)) v
end_is at_limit a e h k = let z : None ≡ Some a = h in cc

pub is_end : (finish : Finish) (a : Asking) (text : List ℕ) → asked_at_end finish ≡ Some a → text ≡ end_text finish →
    IsEnd text
is_end (finished x) a text h e = (x, e)
is_end at_limit a text h e = let z : None ≡ Some a = h in cc

got-one : {A : Type 0} (xs : List A) (i : ℕ) → i < length xs → (x : A) × (slice_get xs i ≡ Some x)
got-one [] i lt = absurd (let z : ⊥ = omega (arith, lt) in z)
got-one (x ∷ xs) zero lt = (x, refl)
got-one (x ∷ xs) (suc i) lt = got-one xs i (omega (arith, lt))

got-within : {A : Type 0} (xs : List A) (i : ℕ) (x : A) → slice_get xs i ≡ Some x → i < length xs
got-within [] i x h = let z : None ≡ Some x = h in cc
got-within (y ∷ xs) zero x h = omega arith
got-within (y ∷ xs) (suc i) x h = let k = got-within xs i x h in omega (arith, k)

or-number : (xs : List ℕ) (i n : ℕ) → slice_get xs i ≡ Some n → slice_index_or xs i 0 ≡ n
or-number [] i n h = let z : None ≡ Some n = h in cc
or-number (y ∷ xs) zero n h = let e : y ≡ n = cc in e
or-number (y ∷ xs) (suc i) n h = or-number xs i n h

-- ranks that have the numbers of nodes
pub are_numbered : (p : Program) (ss : List State) (nodes : List Node) (of : List ℕ) (ranks : List Rank)
    (rows : List Row) → length of ≡ length nodes → HaveNumbers of ranks → AreRanked p ss nodes ranks rows →
    AreNumbered p ss nodes of rows
are_numbered p ss nodes of ranks rows long h f i s e nd st a =
    let lt = got-within nodes i Ends nd in
    let n = got-one of i (omega (arith, lt, long)) in
    let k = h.each i n.0 n.1 in
    subst (λ z. HasRank rows s.output (end_text (finished e)) z) (k.2 ∙ sym (or-number of i n.0 n.1))
    (f i s e k.0 nd st a k.1)

-- so it is for the nodes before an index
abbrev pub AreRankedBelow : Program → List State → List Node → List Rank → List Row → ℕ → Type 0
AreRankedBelow p ss nodes ranks rows n = (i : ℕ) (s : State) (e : Ending) (k : Rank) → i < n →
    slice_get nodes i ≡ Some Ends → slice_get ss i ≡ Some s → ask p s ≡ ended e → slice_get ranks i ≡ Some k →
    HasRank rows s.output (end_text (finished e)) k.breadth

place : (i n : ℕ) → i < n + 1 → (i < n) ⊎ (i ≡ n)
place zero zero lt = inr refl
place zero (suc n) lt = inl (omega arith)
place (suc i) zero lt = absurd (let z : ⊥ = omega (arith, lt) in z)
place (suc i) (suc n) lt = elim (place i n (omega (arith, lt))) [
  | inl a ↦ inl (omega (arith, a))
  | inr a ↦ inr (ap suc a)
]

pub ranked_more : (p : Program) (ss : List State) (nodes : List Node) (ranks : List Rank) (rows new : List Row) (n : ℕ)
    (t : State) (node : Node) (rank : Rank) → slice_get nodes n ≡ Some node → slice_get ss n ≡ Some t →
    ((k : Rank) → slice_get ranks n ≡ Some k → rank ≡ k) →
    ((o e : List ℕ) (k : ℕ) → HasRank rows o e k → HasRank new o e k) →
    ((e : Ending) → node ≡ Ends → ask p t ≡ ended e → HasRank new t.output (end_text (finished e)) rank.breadth) →
    AreRankedBelow p ss nodes ranks rows n → AreRankedBelow p ss nodes ranks new (n + 1)
ranked_more p ss nodes ranks rows new n t node rank gn gs gk kept ranked h i s e k lt nd st a rk =
    by_place (place i n lt)
  where
    by_place : (i < n) ⊎ (i ≡ n) → HasRank new s.output (end_text (finished e)) k.breadth
    by_place (inl below) = kept s.output (end_text (finished e)) k.breadth (h i s e k below nd st a rk)
    by_place (inr is) =
        let nd' : slice_get nodes n ≡ Some Ends = subst (λ z. slice_get nodes z ≡ Some Ends) is nd in
        let st' : slice_get ss n ≡ Some s = subst (λ z. slice_get ss z ≡ Some s) is st in
        let rk' : slice_get ranks n ≡ Some k = subst (λ z. slice_get ranks z ≡ Some k) is rk in
        let x : node ≡ Ends = (let v : Some node ≡ Some Ends = sym gn ∙ nd' in cc) in
        let y : t ≡ s = (let v : Some t ≡ Some s = sym gs ∙ st' in cc) in
        subst (λ (z : Rank). HasRank new s.output (end_text (finished e)) z.breadth) (gk k rk')
        (subst (λ (z : State). HasRank new z.output (end_text (finished e)) rank.breadth) y
        (ranked e x (ap (ask p) y ∙ a)))

pub ranked_all : (p : Program) (ss : List State) (nodes : List Node) (ranks : List Rank) (rows : List Row) (n : ℕ) →
    length nodes ≤ n → AreRankedBelow p ss nodes ranks rows n → AreRanked p ss nodes ranks rows
ranked_all p ss nodes ranks rows n le h i s e k nd st a rk =
    let lt = got-within nodes i Ends nd in h i s e k (omega (arith, lt, le)) nd st a rk

-- the row that is made for a node
pub ranked_row : (finish : Finish) (a : Asking) (e : Ending) (row : Row) (output : List ℕ) (rank : Rank) →
    asked_at_end finish ≡ Some a → a ≡ ended e → row.output.items ≡ output → row.end.items ≡ end_text finish →
    row.rank ≡ rank → IsRankedRow output (end_text (finished e)) rank (Some row)
ranked_row finish a e row output rank h k o t r = record {
  row = row;
  is = refl;
  same_output = o;
  same_end = t ∙ end_is finish a e h k;
  ranked = r;
}

-- the ranks up to an index have their numbers
pub record HaveNumbersBelow (of : List ℕ) (ranks : List Rank) (n : ℕ) : Type 0 where
  pub long : length ranks ≡ n
  pub each : (i m : ℕ) → i < n → slice_get of i ≡ Some m → (k : Rank) × (slice_get ranks i ≡ Some k) × (k.breadth ≡ m)

pub numbers_none : (of : List ℕ) → HaveNumbersBelow of [] 0
numbers_none of = record { long = refl; each = λ i m lt g. absurd (let z : ⊥ = omega (arith, lt) in z) }

rank-more : (xs : List Rank) (x : Rank) (i : ℕ) (r : Rank) → slice_get xs i ≡ Some r → slice_get (xs ++ x ∷ []) i ≡ Some r
rank-more [] x i r h = let z : None ≡ Some r = h in cc
rank-more (y ∷ xs) x zero r h = h
rank-more (y ∷ xs) x (suc i) r h = rank-more xs x i r h

rank-last : (xs : List Rank) (x : Rank) → slice_get (xs ++ x ∷ []) (length xs) ≡ Some x
rank-last [] x = refl
rank-last (y ∷ xs) x = rank-last xs x

ranks-long : (xs : List Rank) (x : Rank) → length (xs ++ x ∷ []) ≡ suc (length xs)
ranks-long [] x = refl
ranks-long (y ∷ xs) x = ap suc (ranks-long xs x)

pub numbers_next : (of : List ℕ) (ranks new : List Rank) (rank : Rank) (n : ℕ) → new ≡ ranks ++ rank ∷ [] →
    rank.breadth ≡ slice_index_or of n 0 → HaveNumbersBelow of ranks n → HaveNumbersBelow of new (n + 1)
numbers_next of ranks new rank n is breadth h = record {
  long = (let a = ap (λ (z : List Rank). length z) is in let b = ranks-long ranks rank in let l = h.long in
      omega (arith, a, b, l));
  each = λ i m lt g. by_place i m g (place i n lt);
}
  where
    by_place : (i m : ℕ) → slice_get of i ≡ Some m → (i < n) ⊎ (i ≡ n) →
        (k : Rank) × (slice_get new i ≡ Some k) × (k.breadth ≡ m)
    by_place i m g (inl below) =
        let k = h.each i m below g in
        (k.0, subst (λ z. slice_get z i ≡ Some k.0) (sym is) (rank-more ranks rank i k.0 k.1), k.2)
    by_place i m g (inr e) =
        let there : slice_get new n ≡ Some rank =
        subst (λ z. slice_get z n ≡ Some rank) (sym is)
        (subst (λ z. slice_get (ranks ++ rank ∷ []) z ≡ Some rank) h.long (rank-last ranks rank)) in (
          rank,
          subst (λ z. slice_get new z ≡ Some rank) (sym e) there,
          breadth ∙ or-number of n m (subst (λ z. slice_get of z ≡ Some m) e g),
        )

pub numbers_all : (of : List ℕ) (ranks : List Rank) (n : ℕ) → length of ≤ n → HaveNumbersBelow of ranks n →
    HaveNumbers of ranks
numbers_all of ranks n le h = record {
  each = λ i m g. let lt = got-within of i m g in h.each i m (omega (arith, lt, le)) g;
}
