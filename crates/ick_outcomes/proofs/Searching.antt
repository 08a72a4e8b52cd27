-- Proves how a search keeps its invariant, in the form in which functions use it.
use Prim.Native.Nat.{suc}
use Rattle.std.proofs.Common.{◌≡◌, ℕ, ◌+◌, ◌-◌, ◌<◌, ◌≤◌, max, false, true, length, List, [], ◌∷◌, ◌++◌}
use Rattle.std.proofs.Common.{Option, None, Some, ap, sym, ◌∙◌, subst, arith, length-append}
use Rattle.std.proofs.Common.{ltb, ltb-true, ltb-false, slice_index_or, slice_set, take, drop}
use Rattle.std.proofs.Common.{Result, Ok, Err, OnOk}
use Rattle.std.specs.List.{All}
use Rattle.std.specs.List.Sorted.{IsPartitionPoint}
use Rattle.std.proofs.lemmas.List.{map-append}
use Rattle.std.proofs.lemmas.List.Elements.{All-nil}
use Rattle.ick_code.specs.meaning.Move.{choice}
use Rattle.ick_backtrack.specs.Asked.{Finish, IsGoing}
use Rattle.ick_outcomes.specs.Programs.{ask, Program}
use Rattle.ick_code.specs.meaning.State.{State}
use Rattle.ick_outcomes.specs.Tallies.{Test, Tally, join, none}
use Rattle.ick_outcomes.specs.Accounts.{Configuration, Pending, ahead, all_ahead, all_counted, chosen}
use Rattle.ick_outcomes.specs.Accounts.{AreDistinct, AreOver, Counts, GoesOn, ended_row}
use Rattle.ick_outcomes.specs.Seen.{pending_of, nodes_of, rows_of}
use Rattle.ick_outcomes.specs.Searches.{Adds, AreRising, HasBucket, IsAccount, IsFiled, IsLevel, Joins}
use Rattle.ick_outcomes.specs.Searches.{TakesDue, Waits, asking, height, nodes_in, runs_of}
use Rattle.ick_outcomes.specs.declared.pending.Node.{Node}
use Rattle.ick_outcomes.specs.declared.bucket.Bucket.{Bucket}
use Rattle.ick_outcomes.specs.declared.search.Search.{Search}
use Rattle.ick_outcomes.proofs.Algebra.{join-none, join-swap, join-assoc}
use Rattle.ick_outcomes.proofs.Buckets.{admits-in, all-in, all-left, all-right, at-inserted, get-at, height-insert}
use Rattle.ick_outcomes.proofs.Buckets.{height-push, height-set, length-in, nodes-insert, nodes-push, rising-insert}
use Rattle.ick_outcomes.proofs.Buckets.{rising-last, rising-order, rising-set}
use Rattle.ick_outcomes.proofs.ProgramRuns.{chance_between}
use Rattle.ick_outcomes.proofs.Sums.{ahead-choice, join-front, joined-append}

-- what holds after a success follows from what else holds then
pub on_ok : {T E : Type 0} {P Q : Type 0} (r : Result T E) → (P → Q) → OnOk r P → OnOk r Q
on_ok (Ok x) f p = f p
on_ok (Err e) f p = tt

pub on_both : {T E : Type 0} {P Q R : Type 0} (r : Result T E) → (P → Q → R) → OnOk r P → OnOk r Q → OnOk r R
on_both (Ok x) f p q = f p q
on_both (Err e) f p q = tt

pub asking_goes : (p : Program) (s : State) (c : Option ℕ) → ask p s ≡ asking c → IsGoing (ask p s)
asking_goes p s None e = subst IsGoing (sym e) tt
asking_goes p s (Some k) e = subst IsGoing (sym e) tt

module _ {S : Type 0} (seen : S → Configuration) (suits : S → Type 0) where
  -- what a node that waits asks

  pub waits_choice : (n : Node S) (k : ℕ) → Waits seen suits n → n.chance ≡ Some k →
      ask (seen n.state).program (seen n.state).state ≡ choice k
  waits_choice n k w e = w.asks ∙ ap asking e

  pub waits_going : (n : Node S) → Waits seen suits n → IsGoing (ask (seen n.state).program (seen n.state).state)
  waits_going n w = asking_goes (seen n.state).program (seen n.state).state n.chance w.asks

  pub waits_within : (n : Node S) (k : ℕ) → Waits seen suits n → n.chance ≡ Some k → k ≤ 100
  waits_within n k w e =
      let b = chance_between (seen n.state).program (seen n.state).state k (waits_choice n k w e) in
      omega (arith, b)

  -- runs are added, and then others
  pub adds_both : (t u v : Test → Tally) (most : ℕ) (s s' s'' : Search S) → Adds seen suits t most s s' →
      Adds seen suits u most s' s'' → ((q : Test) → v q ≡ join (t q) (u q)) → Adds seen suits v most s s''
  adds_both t u v most s s' s'' h k e =
      let a = h.highest in
      let b = k.highest in
      record {
        added = λ q. k.added q
            ∙ (ap (join (u q)) (h.added q)
            ∙ (join-front (u q) (t q) (runs_of seen q s)
            ∙ (sym (join-assoc (t q) (u q) (runs_of seen q s))
            ∙ ap (λ z. join z (runs_of seen q s)) (sym (e q)))));
        highest = omega (arith, a, b);
        filed = k.filed;
      }

  -- other words for the same runs
  pub adds_like : (t u : Test → Tally) (most more : ℕ) (s s' : Search S) → Adds seen suits t most s s' →
      ((q : Test) → u q ≡ t q) → most ≤ more → Adds seen suits u more s s'
  adds_like t u most more s s' h e le =
      let a = h.highest in
      record {
        added = λ q. h.added q ∙ ap (λ z. join z (runs_of seen q s)) (sym (e q));
        highest = omega (arith, a, le);
        filed = h.filed;
      }

  -- the runs of a node that ended are added to the rows
  pub adds_row : (n : Pending) (f : Finish) (s s' : Search S) → IsFiled seen suits s → AreOver n f →
      Counts (rows_of s.table.rows.items) (ended_row n f) (rows_of s'.table.rows.items) →
      s'.buckets.items ≡ s.buckets.items → s'.count ≡ s.count → Adds seen suits (λ q. ahead q n) n.left s s'
  adds_row n f s s' h o c e k =
      let le = h.few in
      record {
        added = λ q.
            let a = all_ahead q (nodes_of seen (nodes_in s.buckets.items)) in
            let b = all_counted q (rows_of s.table.rows.items) in
            ap (λ bs. join (all_ahead q (nodes_of seen (nodes_in bs)))
            (all_counted q (rows_of s'.table.rows.items))) e
            ∙ (ap (join a) (c.added q)
            ∙ (join-front a _ b ∙ ap (λ z. join z (join a b)) (sym (o.same_runs q))));
        highest = subst (λ bs. height bs ≤ max (suc n.left) (height s.buckets.items)) (sym e) (omega arith);
        filed = record {
          wait = subst (λ bs. All (Waits seen suits) (nodes_in bs)) (sym e) h.wait;
          rising = subst (AreRising 0) (sym e) h.rising;
          few = subst (λ bs. s'.count ≤ length (nodes_in bs)) (sym e) (omega (arith, k, le));
          apart = c.apart h.apart;
        };
      }

  -- a node is added to a bucket
  pub adds_node : (n : Node S) (at : ℕ) (b b' : Bucket S) (bs : List (Bucket S)) (s s' : Search S) →
      IsFiled seen suits s → HasBucket n.left at s.buckets.items bs → b ≡ slice_index_or bs at b →
      Joins seen suits n b b' → s'.count + length b.nodes.items ≤ s.count + length b'.nodes.items →
      s'.buckets.items ≡ slice_set bs at b' → s'.table.rows.items ≡ s.table.rows.items →
      Adds seen suits (λ q. ahead q (pending_of seen n)) n.left s s'
  adds_node n at b b' bs s s' h k is j more e rows =
      let old = s.buckets.items in
      let get = get-at bs at b k.within is in
      let le = h.few in
      let long = length-in bs at b b' get in
      let same = ap (λ z. length z) k.same_nodes in
      let high = k.highest in
      let flat = height-set bs at b b' get j.same_left in
      record {
        added = λ q.
            let a = all_ahead q (nodes_of seen (nodes_in old)) in
            let c = all_counted q (rows_of s.table.rows.items) in
            ap (λ zs. join (all_ahead q (nodes_of seen (nodes_in zs)))
            (all_counted q (rows_of s'.table.rows.items))) e
            ∙ (ap (λ os. join (all_ahead q (nodes_of seen (nodes_in (slice_set bs at b'))))
            (all_counted q (rows_of os))) rows
            ∙ (ap (λ z. join z c) (admits-in seen bs at b b' (pending_of seen n) get j.admits q
            ∙ ap (λ ns. join (ahead q (pending_of seen n)) (all_ahead q (nodes_of seen ns))) k.same_nodes)
            ∙ join-assoc (ahead q (pending_of seen n)) a c));
        highest = subst (λ zs. height zs ≤ max (suc n.left) (height old)) (sym e) (omega (arith, flat, high));
        filed = record {
          wait = subst (λ zs. All (Waits seen suits) (nodes_in zs)) (sym e)
              (all-in (Waits seen suits) bs at b b' get j.wait
              (subst (All (Waits seen suits)) (sym k.same_nodes) h.wait));
          rising = subst (AreRising 0) (sym e) (rising-set 0 bs at b b' get j.same_left j.level k.rising);
          few = subst (λ zs. s'.count ≤ length (nodes_in zs)) (sym e) (omega (arith, more, le, long, same));
          apart = subst (λ os. AreDistinct (rows_of os)) (sym rows) h.apart;
        };
      }

  -- the runs from a node that asks for a choice are those from the two nodes after it
  pub adds_choice : (n a b : Pending) (k : ℕ) (s s' s'' : Search S) → ask n.at.program n.at.state ≡ choice k →
      0 < n.left → GoesOn (chosen k n false) a → GoesOn (chosen k n true) b →
      Adds seen suits (λ q. ahead q a) a.left s s' → Adds seen suits (λ q. ahead q b) b.left s' s'' →
      Adds seen suits (λ q. ahead q n) (n.left - 1) s s''
  adds_choice n a b k s s' s'' c lt f g h i =
      adds_both (λ q. ahead q (chosen k n false)) (λ q. ahead q (chosen k n true)) (λ q. ahead q n) (n.left - 1)
      s s' s'' (adds_like _ _ a.left (n.left - 1) s s' h f.same_runs f.no_more)
      (adds_like _ _ b.left (n.left - 1) s' s'' i g.same_runs g.no_more) (λ q. ahead-choice q n k c lt)

  -- the nodes of a round, one after another
  pub adds_more : (made : List (Node S)) (n : Node S) (left : ℕ) (s s' s'' : Search S) → n.left ≡ left →
      Adds seen suits (λ q. all_ahead q (nodes_of seen made)) (left - 1) s s' →
      Adds seen suits (λ q. ahead q (pending_of seen n)) (n.left - 1) s' s'' →
      Adds seen suits (λ q. all_ahead q (nodes_of seen (made ++ n ∷ []))) (left - 1) s s''
  adds_more made n left s s' s'' e h k =
      adds_both _ (λ q. all_ahead q (pending_of seen n ∷ [])) _ (left - 1) s s' s'' h
      (adds_like _ _ (n.left - 1) (left - 1) s' s'' k (λ q. join-none (ahead q (pending_of seen n)))
      (omega (arith, e)))
      (λ q. ap (all_ahead q) (map-append (pending_of seen) made (n ∷ []))
      ∙ joined-append (ahead q) (nodes_of seen made) (pending_of seen n ∷ []))

  -- the bucket that is due
  pub takes_runs : (due : Bucket S) (s s' : Search S) → TakesDue due s s' → (q : Test) →
      runs_of seen q s ≡ join (all_ahead q (nodes_of seen due.nodes.items)) (runs_of seen q s')
  takes_runs due s s' h q =
      let rest = nodes_in s'.buckets.items in
      let a = all_ahead q (nodes_of seen rest) in
      let d = all_ahead q (nodes_of seen due.nodes.items) in
      let c = all_counted q (rows_of s'.table.rows.items) in
      ap (λ bs. join (all_ahead q (nodes_of seen (nodes_in bs))) (all_counted q (rows_of s.table.rows.items))) h.last
      ∙ (ap (λ os. join (all_ahead q (nodes_of seen (nodes_in (s'.buckets.items ++ due ∷ []))))
      (all_counted q (rows_of os))) (sym h.same_rows)
      ∙ (ap (λ z. join z c) (ap (λ ns. all_ahead q (nodes_of seen ns)) (nodes-push s'.buckets.items due)
      ∙ (ap (all_ahead q) (map-append (pending_of seen) rest due.nodes.items)
      ∙ (joined-append (ahead q) (nodes_of seen rest) (nodes_of seen due.nodes.items) ∙ join-swap a d)))
      ∙ join-assoc d a c))

  takes_wait : (due : Bucket S) (s s' : Search S) → TakesDue due s s' → IsFiled seen suits s →
      All (Waits seen suits) (nodes_in s'.buckets.items ++ due.nodes.items)
  takes_wait due s s' h f =
      subst (All (Waits seen suits)) (ap nodes_in h.last ∙ nodes-push s'.buckets.items due) f.wait

  pub takes_filed : (due : Bucket S) (s s' : Search S) → TakesDue due s s' → IsFiled seen suits s →
      IsFiled seen suits s'
  takes_filed due s s' h f =
      let last = rising-last 0 s'.buckets.items due (subst (AreRising 0) h.last f.rising) in
      let le = f.few in
      let few = h.fewer in
      let long = length-append (nodes_in s'.buckets.items) due.nodes.items in
      let same = ap (λ z. length z) (ap nodes_in h.last ∙ nodes-push s'.buckets.items due) in
      record {
        wait = all-left (Waits seen suits) (nodes_in s'.buckets.items) due.nodes.items (takes_wait due s s' h f);
        rising = last.0;
        few = omega (arith, le, few, long, same);
        apart = subst (λ os. AreDistinct (rows_of os)) (sym h.same_rows) f.apart;
      }

  pub due_waits : (due : Bucket S) (s s' : Search S) → TakesDue due s s' → IsFiled seen suits s →
      All (Waits seen suits) due.nodes.items
  due_waits due s s' h f =
      all-right (Waits seen suits) (nodes_in s'.buckets.items) due.nodes.items (takes_wait due s s' h f)

  pub due_level : (due : Bucket S) (s s' : Search S) → TakesDue due s s' → IsFiled seen suits s → IsLevel due
  due_level due s s' h f = (rising-last 0 s'.buckets.items due (subst (AreRising 0) h.last f.rising)).1

  -- a round makes the search lower
  pub due_lower : (due : Bucket S) (s s' s'' : Search S) (t : Test → Tally) → TakesDue due s s' →
      IsFiled seen suits s → Adds seen suits t (due.left - 1) s' s'' →
      height s''.buckets.items < height s.buckets.items
  due_lower due s s' s'' t h f k =
      let last = rising-last 0 s'.buckets.items due (subst (AreRising 0) h.last f.rising) in
      let some = last.2 in
      let le = last.3 in
      let high = k.highest in
      let top = height-push s'.buckets.items due in
      let same = ap height h.last in
      omega (arith, some, le, high, top, same)

  pub account_goes_on : (n : Pending) (due : Bucket S) (s s' s'' : Search S) → IsAccount seen suits n s →
      TakesDue due s s' → Adds seen suits (λ q. all_ahead q (nodes_of seen due.nodes.items)) (due.left - 1) s' s'' →
      IsAccount seen suits n s''
  account_goes_on n due s s' s'' h k a = record {
    whole = λ q. h.whole q ∙ (takes_runs due s s' k q ∙ sym (a.added q));
    filed = a.filed;
  }

-- the bucket for a number of steps left: it is there, or an empty one is put there
module _ {S : Type 0} where
  pub bucket_new : (left at : ℕ) (bs bs' : List (Bucket S)) (b : Bucket S) → b.left ≡ left → b.nodes.items ≡ [] →
      bs' ≡ take at bs ++ b ∷ drop at bs → at ≤ length bs → 0 < left →
      IsPartitionPoint (λ (c : Bucket S). ltb c.left left ≡ true) (λ (c : Bucket S). ltb c.left left ≡ false) bs at →
      ((d : Bucket S) → at < length bs → (slice_index_or bs at d).left ≡ left → ⊥) → AreRising 0 bs →
      HasBucket left at bs bs'
  bucket_new left at bs bs' b e none same le some point other h =
      subst (HasBucket left at bs) (sym same)
      (record {
        within = (at-inserted bs at b b le).0;
        there = λ d. ap (λ c. c.left) (at-inserted bs at b d le).1 ∙ e;
        same_nodes = nodes-insert bs at b none;
        rising = rising-insert 0 bs at b (subst (All (λ n. n.left ≡ b.left)) (sym none) (All-nil (λ n. n.left ≡ b.left)))
            (omega (arith, e, some))
            (λ k d lt. let u = ltb-true _ left (point.0 k d (omega arith) lt) in omega (arith, u, e))
            (λ k d lo hi.
            let u = ltb-false _ left (point.1 at d (omega arith) (omega (arith, lo, hi))) in
            let v = other d (omega (arith, lo, hi)) in
            let w = rising-order 0 bs h at k d lo hi in
            omega (arith, u, v, w, e)) h;
        highest = let high = height-insert bs at b in omega (arith, high, e);
      })
