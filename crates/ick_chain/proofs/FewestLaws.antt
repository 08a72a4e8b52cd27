-- Proves that the runs that are shown are the first of those with the fewest choices.
use Prim.Native.Nat.{zero, suc}
use Rattle.std.proofs.Common.{◌≡◌, ◌⊎◌, inl, inr, ℕ, Bool, List, [], ◌∷◌, ◌++◌, Some, None, length}
use Rattle.std.proofs.Common.{slice_get, slice_index_or, refl, ap, sym, ◌∙◌, subst, arith}
use Rattle.std.specs.Global.{Vec}
use Rattle.std.specs.List.{Contains}
use Rattle.ick_code.specs.meaning.State.{State, Ending, gave_up, faulted}
use Rattle.ick_backtrack.specs.Asked.{finished, at_limit}
use Rattle.ick_outcomes.specs.Programs.{Program}
use Rattle.ick_explorer.specs.Lines.{end_text}
use Rattle.ick_explorer.proofs.ListingLaws.{contains-head, contains-tail}
use Rattle.ick_chain.specs.declared.chain.Node.{Node}
use Rattle.ick_chain.specs.declared.chain.Node.TheVariants.{Ends}
use Rattle.ick_chain.specs.declared.row.Row.{Row as Kept}
use Rattle.ick_chain.specs.declared.words.Labels.{Labels}
use Rattle.ick_chain.specs.Fewest.{AreFewest, IsLabelled}
use Rattle.ick_chain.specs.FirstRuns.{IsFewest, IsNoMore}
use Rattle.ick_chain.specs.Places.{IsFull}
use Rattle.ick_chain.specs.Ranks.{AreNumbered, IsEnd}
use Rattle.ick_chain.specs.Rows.{Row, AreDistinct, row_of, rows_of}
use Rattle.ick_chain.specs.Shown.{choices_of}
use Rattle.ick_chain.specs.Words.{Anywhere, AreLeast, AreWords, word_at, word_of}
use Rattle.ick_chain.proofs.Coming.{comes}
use Rattle.ick_chain.proofs.WordLaws.{no_more_same, no_more_trans, no_more_more, no_more_below}

-- the end of a program isn't that of the limit
first-or : List ℕ → ℕ
first-or [] = 0
first-or (x ∷ xs) = x

pub not-limit : (e : Ending) → end_text (finished e) ≡ end_text at_limit → ⊥
unfolding first-or
not-limit gave_up h = let z : 71 ≡ 76 = ap first-or h in let y : ⊥ = omega (arith, z) in y
not-limit (faulted k n s) h = let z : 69 ≡ 76 = ap first-or h in let y : ⊥ = omega (arith, z) in y

pub end_not_limit : (text : List ℕ) → IsEnd text → text ≡ end_text at_limit → ⊥
end_not_limit text h e = not-limit h.0 (sym h.1 ∙ e)

got-row : (rs : List Kept) (i : ℕ) (r : Row) → slice_get (rows_of rs) i ≡ Some r →
    (k : Kept) × (slice_get rs i ≡ Some k) × (row_of k ≡ r)
got-row [] i r h = let z : None ≡ Some r = h in cc
got-row (x ∷ rs) zero r h = (x, refl, (let e : row_of x ≡ r = cc in e))
got-row (x ∷ rs) (suc i) r h = got-row rs i r h

in-rows : (rs : List Kept) (i : ℕ) (x : Kept) → slice_get rs i ≡ Some x → Contains (rows_of rs) (row_of x)
in-rows [] i x h = let z : None ≡ Some x = h in cc
in-rows (y ∷ rs) zero x h =
    let e : y ≡ x = cc in subst (λ z. Contains (row_of y ∷ rows_of rs) (row_of z)) e (contains-head (row_of y) (rows_of rs))
in-rows (y ∷ rs) (suc i) x h = contains-tail (row_of y) (row_of x) (rows_of rs) (in-rows rs i x h)

-- rows with the same outcome are the same
pub same-row : (rs : List Kept) → AreDistinct (rows_of rs) → (i j : ℕ) (x y : Kept) → slice_get rs i ≡ Some x →
    slice_get rs j ≡ Some y → x.output.items ≡ y.output.items → x.end.items ≡ y.end.items → x ≡ y
same-row [] d i j x y g h a b = let z : None ≡ Some x = g in cc
same-row (r ∷ rs) d zero zero x y g h a b = let e : Some x ≡ Some y = sym g ∙ h in cc
same-row (r ∷ rs) d zero (suc j) x y g h a b =
    let e : r ≡ x = cc in
    absurd (d.0 (row_of y) (in-rows rs j y h) (ap (λ (z : Kept). z.output.items) e ∙ a)
    (ap (λ (z : Kept). z.end.items) e ∙ b))
same-row (r ∷ rs) d (suc i) zero x y g h a b =
    let e : r ≡ y = cc in
    absurd (d.0 (row_of x) (in-rows rs i x g) (ap (λ (z : Kept). z.output.items) e ∙ sym a)
    (ap (λ (z : Kept). z.end.items) e ∙ sym b))
same-row (r ∷ rs) d (suc i) (suc j) x y g h a b = same-row rs d.1 i j x y g h a b

-- for each row that has choices already
abbrev pub EachLabelled : Program → State → Labels → List Kept → List (Vec Bool) → Type 0
EachLabelled p s labels rows shown = (i : ℕ) (r : Kept) (c : List Bool) → slice_get rows i ≡ Some r →
    slice_get (choices_of shown) i ≡ Some c → IsLabelled p s labels r c

pub none_labelled : (p : Program) (s : State) (labels : Labels) (rows : List Kept) → EachLabelled p s labels rows []
none_labelled p s labels rows i r c g h = let z : None ≡ Some c = h in cc

got-pushed : (shown : List (Vec Bool)) (c : Vec Bool) (i : ℕ) (d : List Bool) →
    slice_get (choices_of (shown ++ c ∷ [])) i ≡ Some d →
    (slice_get (choices_of shown) i ≡ Some d) ⊎ ((i ≡ length shown) × (d ≡ c.items))
got-pushed [] c zero d h = inr (refl, (let e : c.items ≡ d = cc in sym e))
got-pushed [] c (suc i) d h = let z : None ≡ Some d = h in cc
got-pushed (x ∷ shown) c zero d h = inl h
got-pushed (x ∷ shown) c (suc i) d h =
    elim (got-pushed shown c i d h) [ inl k ↦ inl k | inr k ↦ inr (ap suc k.0, k.1) ]

got-at : (rs : List Kept) (k : ℕ) (row r : Kept) → row ≡ slice_index_or rs k row → slice_get rs k ≡ Some r → row ≡ r
got-at [] k row r e h = let z : None ≡ Some r = h in cc
got-at (x ∷ rs) zero row r e h = let z : x ≡ r = cc in e ∙ z
got-at (x ∷ rs) (suc k) row r e h = got-at rs k row r e h

pub labelled_push : (p : Program) (s : State) (labels : Labels) (rows : List Kept) (shown new : List (Vec Bool))
    (c : Vec Bool) (row : Kept) (k : ℕ) → length shown ≡ k → row ≡ slice_index_or rows k row →
    IsLabelled p s labels row c.items → new ≡ shown ++ c ∷ [] → EachLabelled p s labels rows shown →
    EachLabelled p s labels rows new
labelled_push p s labels rows shown new c row k long is h e f =
    subst (λ z. EachLabelled p s labels rows z) (sym e)
    (λ i r d g j. elim (got-pushed shown c i d j) [
      | inl o ↦ f i r d g o
      | inr o ↦
          let w = got-at rows k row r is (subst (λ z. slice_get rows z ≡ Some r) (o.0 ∙ long) g) in
          subst (λ z. IsLabelled p s labels r z) (sym o.1) (subst (λ z. IsLabelled p s labels z c.items) w h)
    ])

choices-long : (shown : List (Vec Bool)) → length (choices_of shown) ≡ length shown
choices-long [] = refl
choices-long (x ∷ shown) = ap suc (choices-long shown)

rows-long : (rows : List Kept) → length (rows_of rows) ≡ length rows
rows-long [] = refl
rows-long (x ∷ rows) = ap suc (rows-long rows)

module _ (p : Program) (ss : List State) (nodes : List Node) (full : IsFull p ss nodes) (labels : Labels)
    (words : AreWords labels.words.items) (least : AreLeast nodes labels) (s : State)
    (begins : slice_get ss 0 ≡ Some s) (rows : List Kept) (distinct : AreDistinct (rows_of rows))
    (numbered : AreNumbered p ss nodes labels.of.items rows) where
  fewest-row : (i : ℕ) (k : Kept) (c : List Bool) → slice_get rows i ≡ Some k → IsLabelled p s labels k c →
      IsFewest p s k.output.items k.end.items c
  fewest-row i k c g l = record {
    shown = l.shown;
    fewest = λ d h.
        let m = comes p ss nodes full Anywhere IsNoMore (word_at labels) no_more_same no_more_trans no_more_more
        (λ i n f e is. (least.each i n e).ways f is) k.output.items k.end.items (end_not_limit k.end.items l.ended) 0 s d begins h in
        let r = numbered m.at m.state m.ending m.node m.there m.asks in
        let same = same-row rows distinct r.at i r.row k r.there g (r.same_output ∙ m.same_output)
        (r.same_end ∙ m.same_end) in
        let rank = ap (λ (z : Kept). z.rank.breadth) same in
        let le = r.least in
        let number = slice_index_or labels.of.items m.at 0 in
        let a : IsNoMore (word_of labels.words.items k.rank.breadth) (word_of labels.words.items number) =
        no_more_below labels.words.items words k.rank.breadth number (omega (arith, rank, le))
        (least.each m.at Ends m.node).within in
        let b : IsNoMore (word_at labels m.at) d =
        subst (λ z. IsNoMore (word_at labels m.at) (z ++ d)) least.first (m.back tt).1 in
        subst (λ z. IsNoMore z d) l.word
        (no_more_trans (word_of labels.words.items k.rank.breadth) (word_at labels m.at) d a b);
  }

  pub are_fewest : (shown : List (Vec Bool)) → length shown ≡ length rows → EachLabelled p s labels rows shown →
      AreFewest p s (rows_of rows) (choices_of shown)
  are_fewest shown long f = record {
    long = choices-long shown ∙ (long ∙ sym (rows-long rows));
    each = λ i r c g h.
        let k = got-row rows i r g in
        subst (λ (z : Row). IsFewest p s z.output z.end c) k.2 (fewest-row i k.0 c k.1 (f i k.0 c k.1 h));
  }
