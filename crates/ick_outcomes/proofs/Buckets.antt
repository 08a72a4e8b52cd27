-- Proves laws of buckets.
use Prim.Native.Nat.{zero, suc}
use Rattle.std.proofs.Common.{◌≡◌, ℕ, ◌+◌, ◌<◌, ◌≤◌, max, length, List, [], ◌∷◌, ◌++◌, None, Some, take, drop}
use Rattle.std.proofs.Common.{refl, ap, sym, ◌∙◌, subst, arith, append_assoc, length-append, slice_get, slice_set}
use Rattle.std.proofs.Common.{slice_index_or}
use Rattle.std.specs.List.{All}
use Rattle.std.proofs.lemmas.List.{append-nil, map-append}
use Rattle.std.proofs.lemmas.List.Elements.{All-append, All-cons, All-head, All-nil, All-tail}
use Rattle.ick_outcomes.specs.Tallies.{Test, join}
use Rattle.ick_outcomes.specs.Accounts.{Configuration, Pending, ahead, all_ahead, joined, Admits}
use Rattle.ick_outcomes.specs.Searches.{AreRising, IsLevel, height, nodes_in}
use Rattle.ick_outcomes.specs.Seen.{pending_of, nodes_of}
use Rattle.ick_outcomes.specs.declared.pending.Node.{Node}
use Rattle.ick_outcomes.specs.declared.bucket.Bucket.{Bucket}
use Rattle.ick_outcomes.proofs.Sums.{joined-append, joined-set}

pub get-at : {A : Type 0} (xs : List A) (i : ℕ) (x : A) → i < length xs → x ≡ slice_index_or xs i x →
    slice_get xs i ≡ Some x
get-at [] i x lt e = absurd (omega (arith, lt))
get-at (y ∷ xs) zero x lt e = ap (λ z. Some z) (sym e)
get-at (y ∷ xs) (suc i) x lt e = get-at xs i x (omega (arith, lt)) e

-- what holds of all elements of a list holds of those of its parts
pub all-left : {A : Type 0} (P : A → Type 0) (xs ys : List A) → All P (xs ++ ys) → All P xs
all-left P [] ys h = All-nil P
all-left P (x ∷ xs) ys h =
    All-cons P x xs (All-head P x (xs ++ ys) h) (all-left P xs ys (All-tail P x (xs ++ ys) h))

pub all-right : {A : Type 0} (P : A → Type 0) (xs ys : List A) → All P (xs ++ ys) → All P ys
all-right P [] ys h = h
all-right P (x ∷ xs) ys h = all-right P xs ys (All-tail P x (xs ++ ys) h)

-- and of one between them
pub all-at : {A : Type 0} (P : A → Type 0) (all xs ys : List A) (x : A) → all ≡ xs ++ x ∷ ys → All P all → P x
all-at P all xs ys x e h = All-head P x ys (all-right P xs (x ∷ ys) (subst (All P) e h))

module _ {S : Type 0} where
  -- the nodes of one bucket more
  pub nodes-push : (bs : List (Bucket S)) (b : Bucket S) → nodes_in (bs ++ b ∷ []) ≡ nodes_in bs ++ b.nodes.items
  nodes-push [] b = append-nil b.nodes.items
  nodes-push (x ∷ bs) b =
      ap (λ z. x.nodes.items ++ z) (nodes-push bs b) ∙ sym (append_assoc x.nodes.items (nodes_in bs) b.nodes.items)

  pub at-inserted : (bs : List (Bucket S)) (i : ℕ) (b d : Bucket S) → i ≤ length bs →
      (i < length (take i bs ++ b ∷ drop i bs)) × (slice_index_or (take i bs ++ b ∷ drop i bs) i d ≡ b)
  at-inserted [] zero b d le = (omega arith, refl)
  at-inserted [] (suc i) b d le = absurd (omega (arith, le))
  at-inserted (x ∷ bs) zero b d le = (omega arith, refl)
  at-inserted (x ∷ bs) (suc i) b d le =
      let h = at-inserted bs i b d (omega (arith, le)) in
      let u = h.0 in
      (omega (arith, u), h.1)

  pub nodes-insert : (bs : List (Bucket S)) (i : ℕ) (b : Bucket S) → b.nodes.items ≡ [] →
      nodes_in (take i bs ++ b ∷ drop i bs) ≡ nodes_in bs
  nodes-insert [] zero b e = ap (λ z. z ++ []) e
  nodes-insert [] (suc i) b e = ap (λ z. z ++ []) e
  nodes-insert (x ∷ bs) zero b e = ap (λ z. z ++ nodes_in (x ∷ bs)) e
  nodes-insert (x ∷ bs) (suc i) b e = ap (λ z. x.nodes.items ++ z) (nodes-insert bs i b e)

  ahead-parts : (seen : S → Configuration) (q : Test) (bs : List (Bucket S)) →
      all_ahead q (nodes_of seen (nodes_in bs)) ≡ joined (λ b. all_ahead q (nodes_of seen b.nodes.items)) bs
  ahead-parts seen q [] = refl
  ahead-parts seen q (b ∷ bs) =
      ap (all_ahead q) (map-append (pending_of seen) b.nodes.items (nodes_in bs))
      ∙ (joined-append (ahead q) (nodes_of seen b.nodes.items) (nodes_of seen (nodes_in bs))
      ∙ ap (join (all_ahead q (nodes_of seen b.nodes.items))) (ahead-parts seen q bs))

  -- a bucket is replaced by one to which a node was added
  pub admits-in : (seen : S → Configuration) (bs : List (Bucket S)) (i : ℕ) (b b' : Bucket S) (n : Pending) →
      slice_get bs i ≡ Some b → Admits (nodes_of seen b.nodes.items) n (nodes_of seen b'.nodes.items) →
      Admits (nodes_of seen (nodes_in bs)) n (nodes_of seen (nodes_in (slice_set bs i b')))
  admits-in seen bs i b b' n h a = λ q.
      ahead-parts seen q (slice_set bs i b')
      ∙ (joined-set (λ c. all_ahead q (nodes_of seen c.nodes.items)) bs i b b' (ahead q n) h (sym (a q))
      ∙ ap (join (ahead q n)) (sym (ahead-parts seen q bs)))

  pub length-in : (bs : List (Bucket S)) (i : ℕ) (b b' : Bucket S) → slice_get bs i ≡ Some b →
      length (nodes_in (slice_set bs i b')) + length b.nodes.items
      ≡ length (nodes_in bs) + length b'.nodes.items
  length-in [] i b b' h = let z : None ≡ Some b = h in cc
  length-in (x ∷ bs) zero b b' h =
      let z : x ≡ b = cc in
      let e = length-append b'.nodes.items (nodes_in bs) in
      let f = length-append x.nodes.items (nodes_in bs) in
      let g = ap (λ c. length c.nodes.items) z in
      omega (arith, e, f, g)
  length-in (x ∷ bs) (suc i) b b' h =
      let e = length-append x.nodes.items (nodes_in (slice_set bs i b')) in
      let f = length-append x.nodes.items (nodes_in bs) in
      let g = length-in bs i b b' h in
      omega (arith, e, f, g)

  pub all-in : (P : Node S → Type 0) (bs : List (Bucket S)) (i : ℕ) (b b' : Bucket S) → slice_get bs i ≡ Some b →
      (All P b.nodes.items → All P b'.nodes.items) → All P (nodes_in bs) → All P (nodes_in (slice_set bs i b'))
  all-in P [] i b b' h f k = k
  all-in P (x ∷ bs) zero b b' h f k =
      let z : x ≡ b = cc in
      All-append P b'.nodes.items (nodes_in bs)
      (f (subst (λ c. All P c.nodes.items) z (all-left P x.nodes.items (nodes_in bs) k)))
      (all-right P x.nodes.items (nodes_in bs) k)
  all-in P (x ∷ bs) (suc i) b b' h f k =
      All-append P x.nodes.items (nodes_in (slice_set bs i b')) (all-left P x.nodes.items (nodes_in bs) k)
      (all-in P bs i b b' h f (all-right P x.nodes.items (nodes_in bs) k))

  pub rising-set : (least : ℕ) (bs : List (Bucket S)) (i : ℕ) (b b' : Bucket S) → slice_get bs i ≡ Some b →
      b'.left ≡ b.left → IsLevel b' → AreRising least bs → AreRising least (slice_set bs i b')
  rising-set least [] i b b' h e l k = tt
  rising-set least (x ∷ bs) zero b b' h e l k =
      let z : x ≡ b = cc in
      let w = ap (λ c. c.left) z ∙ sym e in
      (subst (λ v. least < v) w k.0, l, subst (λ v. AreRising v bs) w k.2)
  rising-set least (x ∷ bs) (suc i) b b' h e l k = (k.0, k.1, rising-set x.left bs i b b' h e l k.2)

  pub rising-level : (least : ℕ) (bs : List (Bucket S)) (i : ℕ) (b : Bucket S) → slice_get bs i ≡ Some b →
      AreRising least bs → IsLevel b
  rising-level least [] i b h k = let z : None ≡ Some b = h in cc
  rising-level least (x ∷ bs) zero b h k = let z : x ≡ b = cc in subst IsLevel z k.1
  rising-level least (x ∷ bs) (suc i) b h k = rising-level x.left bs i b h k.2

  pub rising-insert : (least : ℕ) (bs : List (Bucket S)) (i : ℕ) (b : Bucket S) → IsLevel b → least < b.left →
      ((k : ℕ) (d : Bucket S) → k < i → (slice_index_or bs k d).left < b.left) →
      ((k : ℕ) (d : Bucket S) → i ≤ k → k < length bs → b.left < (slice_index_or bs k d).left) →
      AreRising least bs → AreRising least (take i bs ++ b ∷ drop i bs)
  rising-insert least [] zero b l lt f g h = (lt, l, tt)
  rising-insert least [] (suc i) b l lt f g h = (lt, l, tt)
  rising-insert least (x ∷ bs) zero b l lt f g h = (lt, l, (g 0 x (omega arith) (omega arith), h.1, h.2))
  rising-insert least (x ∷ bs) (suc i) b l lt f g h = (
    h.0,
    h.1,
    rising-insert x.left bs i b l (f 0 x (omega arith)) (λ k d u. f (suc k) d (omega (arith, u)))
        (λ k d u v. g (suc k) d (omega (arith, u)) (omega (arith, v))) h.2,
  )

  rising-least : (least : ℕ) (bs : List (Bucket S)) (k : ℕ) (d : Bucket S) → k < length bs → AreRising least bs →
      least < (slice_index_or bs k d).left
  rising-least least [] k d lt h = absurd (omega (arith, lt))
  rising-least least (x ∷ bs) zero d lt h = h.0
  rising-least least (x ∷ bs) (suc k) d lt h =
      let u = h.0 in
      let v = rising-least x.left bs k d (omega (arith, lt)) h.2 in
      omega (arith, u, v)

  pub rising-order : (least : ℕ) (bs : List (Bucket S)) → AreRising least bs → (i j : ℕ) (d : Bucket S) → i ≤ j →
      j < length bs → (slice_index_or bs i d).left ≤ (slice_index_or bs j d).left
  rising-order least [] h i j d le lt = absurd (omega (arith, lt))
  rising-order least (x ∷ bs) h zero zero d le lt = omega arith
  rising-order least (x ∷ bs) h zero (suc j) d le lt =
      let u = rising-least x.left bs j d (omega (arith, lt)) h.2 in omega (arith, u)
  rising-order least (x ∷ bs) h (suc i) zero d le lt = absurd (omega (arith, le))
  rising-order least (x ∷ bs) h (suc i) (suc j) d le lt =
      rising-order x.left bs h.2 i j d (omega (arith, le)) (omega (arith, lt))

  -- the last of them has the most steps left
  pub rising-last : (least : ℕ) (bs : List (Bucket S)) (b : Bucket S) → AreRising least (bs ++ b ∷ []) →
      AreRising least bs × IsLevel b × (least < b.left) × (height bs ≤ b.left)
  rising-last least [] b h = (tt, h.1, h.0, omega arith)
  rising-last least (x ∷ bs) b h =
      let i = rising-last x.left bs b h.2 in
      let u = h.0 in
      let v = i.2 in
      let w = i.3 in
      ((h.0, h.1, i.0), i.1, omega (arith, u, v), omega (arith, v, w))

  pub height-set : (bs : List (Bucket S)) (i : ℕ) (b b' : Bucket S) → slice_get bs i ≡ Some b → b'.left ≡ b.left →
      height (slice_set bs i b') ≡ height bs
  height-set [] i b b' h e = refl
  height-set (x ∷ bs) zero b b' h e =
      let z : x ≡ b = cc in ap (λ l. max (suc l) (height bs)) (e ∙ sym (ap (λ c. c.left) z))
  height-set (x ∷ bs) (suc i) b b' h e = ap (max (suc x.left)) (height-set bs i b b' h e)

  pub height-insert : (bs : List (Bucket S)) (i : ℕ) (b : Bucket S) →
      height (take i bs ++ b ∷ drop i bs) ≤ max (suc b.left) (height bs)
  height-insert [] zero b = omega arith
  height-insert [] (suc i) b = omega arith
  height-insert (x ∷ bs) zero b = omega arith
  height-insert (x ∷ bs) (suc i) b = let h = height-insert bs i b in omega (arith, h)

  pub height-push : (bs : List (Bucket S)) (b : Bucket S) → b.left < height (bs ++ b ∷ [])
  height-push [] b = omega arith
  height-push (x ∷ bs) b = let h = height-push bs b in omega (arith, h)
