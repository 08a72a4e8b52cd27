-- Proves how the bytes that a search and its solver keep are counted.
use Prim.Native.Nat.{zero, suc}
use Rattle.std.proofs.Common.{◌≡◌, ◌⊎◌, inl, inr, ℕ, ◌+◌, ◌*◌, ◌-◌, ◌<◌, ◌≤◌, List, [], ◌∷◌, ◌++◌, Some, None, length}
use Rattle.std.proofs.Common.{take, slice_get, slice_set, slice_index_or, refl, ap, sym, ◌∙◌, subst, arith}
use Rattle.std.specs.List.{Contains}
use Rattle.ick_code.specs.meaning.State.{State}
use Rattle.ick_outcomes.specs.Programs.{Program}
use Rattle.ick_explorer.proofs.ListingLaws.{contains-nil, contains-cases}
use Rattle.ick_outcomes.specs.Accounts.{Configuration}
use Rattle.ick_outcomes.proofs.Lists.{take-all, take-more}
use Rattle.ick_chain.specs.declared.chain.Node.{Node}
use Rattle.ick_chain.specs.Kept.{HasEntries, HasMoreEntries, HasSources, IsSolverRow, KeepsMore}
use Rattle.ick_chain.specs.Kept.{SolverTakesMore, entries_of, entry_bytes, most_primes, number_bytes, solver_bytes}
use Rattle.ick_chain.specs.Places.{AllSuit, IsFull, states_in}
use Rattle.ick_chain.specs.Reached.{AreDifferent, AreReached, TakesMore, bytes_of, node_bytes}
use Rattle.ick_chain.proofs.Placing.{states_long}

bytes-pushed : {S : Type 0} (size : S → ℕ) (xs : List S) (x : S) →
    bytes_of size (xs ++ x ∷ []) ≡ bytes_of size xs + (size x + node_bytes)
bytes-pushed size [] x = omega arith
bytes-pushed size (y ∷ xs) x = let h = bytes-pushed size xs x in omega (arith, h)

-- the bytes of one state more
pub bytes_next : {S : Type 0} (size : S → ℕ) (xs : List S) (n : ℕ) (x : S) (sum bytes more new : ℕ) → n < length xs →
    x ≡ slice_index_or xs n x → sum ≤ bytes_of size (take n xs) → bytes ≤ size x → more ≤ bytes + node_bytes →
    new ≤ sum + more → new ≤ bytes_of size (take (n + 1) xs)
bytes_next size xs n x sum bytes more new lt e h b m k =
    let next : n + 1 ≡ suc n = omega arith in
    let same : take (n + 1) xs ≡ take n xs ++ x ∷ [] =
    ap (λ z. take z xs) next ∙ (take-more xs n x lt ∙ ap (λ z. take n xs ++ z ∷ []) (sym e)) in
    let l = ap (bytes_of size) same ∙ bytes-pushed size (take n xs) x in
    omega (arith, h, b, m, k, l)

pub bytes_all : {S : Type 0} (size : S → ℕ) (xs : List S) (n sum : ℕ) → length xs ≤ n →
    sum ≤ bytes_of size (take n xs) → sum ≤ bytes_of size xs
bytes_all size xs n sum le h = let l = ap (bytes_of size) (take-all xs n le) in omega (arith, h, l)

-- different nodes were counted, and each has the mark
pub record AreMarked (marks : List ℕ) (stamp count n : ℕ) : Type 0 where
  pub row : List ℕ
  pub is_row : IsSolverRow count row
  pub counted : n ≤ length row
  pub marked : (i x : ℕ) → slice_get row i ≡ Some x → slice_get marks x ≡ Some stamp

pub none_marked : (marks : List ℕ) (stamp count : ℕ) → AreMarked marks stamp count 0
none_marked marks stamp count = record {
  row = [];
  is_row = record {
    different = λ i j n g h. let z : None ≡ Some n = g in cc;
    within = λ i n g. let z : None ≡ Some n = g in cc;
  };
  counted = omega arith;
  marked = λ i x g. let z : None ≡ Some x = g in cc;
}

got-pushed : (xs : List ℕ) (x : ℕ) (i y : ℕ) → slice_get (xs ++ x ∷ []) i ≡ Some y →
    (slice_get xs i ≡ Some y) ⊎ ((i ≡ length xs) × (y ≡ x))
got-pushed [] x zero y h = inr (refl, (let e : x ≡ y = cc in sym e))
got-pushed [] x (suc i) y h = let z : None ≡ Some y = h in cc
got-pushed (w ∷ xs) x zero y h = inl h
got-pushed (w ∷ xs) x (suc i) y h = elim (got-pushed xs x i y h) [ inl k ↦ inl k | inr k ↦ inr (ap suc k.0, k.1) ]

got-set : (xs : List ℕ) (i x : ℕ) → i < length xs → slice_get (slice_set xs i x) i ≡ Some x
got-set [] i x lt = absurd (let z : ⊥ = omega (arith, lt) in z)
got-set (y ∷ xs) zero x lt = refl
got-set (y ∷ xs) (suc i) x lt = got-set xs i x (omega (arith, lt))

got-still : (xs : List ℕ) (i j x y : ℕ) → i < length xs → slice_get xs j ≡ Some y → y ≡ x →
    slice_get (slice_set xs i x) j ≡ Some x
got-still [] i j x y lt h e = absurd (let z : ⊥ = omega (arith, lt) in z)
got-still (w ∷ xs) zero zero x y lt h e = refl
got-still (w ∷ xs) zero (suc j) x y lt h e = h ∙ ap Some e
got-still (w ∷ xs) (suc i) zero x y lt h e = h ∙ ap Some e
got-still (w ∷ xs) (suc i) (suc j) x y lt h e = got-still xs i j x y (omega (arith, lt)) h e

long-pushed : (xs : List ℕ) (x : ℕ) → length (xs ++ x ∷ []) ≡ suc (length xs)
long-pushed [] x = refl
long-pushed (y ∷ xs) x = ap suc (long-pushed xs x)

or-got : (xs : List ℕ) (i x d : ℕ) → slice_get xs i ≡ Some x → slice_index_or xs i d ≡ x
or-got [] i x d h = let z : None ≡ Some x = h in cc
or-got (y ∷ xs) zero x d h = let e : y ≡ x = cc in e
or-got (y ∷ xs) (suc i) x d h = or-got xs i x d h

-- a node without the mark is another one
pub marked_next : (marks new : List ℕ) (stamp count n n' node mark : ℕ) → node < length marks → node < count →
    mark ≡ slice_index_or marks node mark → (mark ≡ stamp → ⊥) → new ≡ slice_set marks node stamp → n' ≤ n + 1 →
    AreMarked marks stamp count n → AreMarked new stamp count n'
marked_next marks new stamp count n n' node mark lt within e other is le h = record {
  row = h.row ++ node ∷ [];
  is_row = record {
    different = λ i j x g k. elim (got-pushed h.row node i x g) [
      | inl a ↦ elim (got-pushed h.row node j x k) [
        | inl b ↦ h.is_row.different i j x a b
        | inr b ↦ absurd (fresh i (subst (λ z. slice_get h.row i ≡ Some z) b.1 a))
      ]
      | inr a ↦ elim (got-pushed h.row node j x k) [
        | inl b ↦ absurd (fresh j (subst (λ z. slice_get h.row j ≡ Some z) a.1 b))
        | inr b ↦ a.0 ∙ sym b.0
      ]
    ];
    within = λ i x g. elim (got-pushed h.row node i x g) [
      | inl a ↦ h.is_row.within i x a
      | inr a ↦ let w = a.1 in omega (arith, within, w)
    ];
  };
  counted = (let l = long-pushed h.row node in let c = h.counted in omega (arith, l, c, le));
  marked = λ i x g. subst (λ z. slice_get z x ≡ Some stamp) (sym is) (elim (got-pushed h.row node i x g) [
    | inl a ↦ got-still marks node x stamp stamp lt (h.marked i x a) refl
    | inr a ↦ subst (λ z. slice_get (slice_set marks node stamp) z ≡ Some stamp) (sym a.1) (got-set marks node stamp lt)
  ]);
}
  where
    fresh : (i : ℕ) → slice_get h.row i ≡ Some node → ⊥
    fresh i g = other (e ∙ or-got marks node stamp mark (h.marked i node g))

pub marked_done : (marks : List ℕ) (stamp count n : ℕ) → AreMarked marks stamp count n → HasSources count n
marked_done marks stamp count n h = record { row = h.row; is_row = h.is_row; counted = h.counted }

-- the lemmas on marks that a function uses together
pub ruleset marking = (none_marked, marked_next, marked_done)

pub none_sources : (count : ℕ) → HasSources count 0
none_sources count = marked_done [] 0 count 0 (none_marked [] 0 count)

pub long_next : (xs new : List ℕ) (x n : ℕ) → length xs ≡ n → new ≡ xs ++ x ∷ [] → length new ≡ n + 1
long_next xs new x n h e =
    let l = ap (λ (z : List ℕ). length z) e ∙ long-pushed xs x in omega (arith, l, h)

-- the rows before an index were counted
pub record AreCountedBelow (count k n : ℕ) : Type 0 where
  pub rows : List (List ℕ)
  pub few : length rows ≤ k
  pub each : (row : List ℕ) → Contains rows row → IsSolverRow count row
  pub counted : n ≤ entries_of rows

pub none_below : (count : ℕ) → AreCountedBelow count 0 0
none_below count = record {
  rows = [];
  few = omega arith;
  each = λ row m. absurd (contains-nil row m);
  counted = omega arith;
}

pub below_next : (count long k n m n' : ℕ) → long ≡ count → HasSources long m → n' ≤ n + m →
    AreCountedBelow count k n → AreCountedBelow count (k + 1) n'
below_next count long k n m n' e g le b = let h = subst (λ z. HasSources z m) e g in record {
  rows = h.row ∷ b.rows;
  few = (let f = b.few in omega (arith, f));
  each = λ row i. elim (contains-cases h.row row b.rows i) [
    | inl e ↦ subst (IsSolverRow count) e h.is_row
    | inr j ↦ b.each row j
  ];
  counted = (let c = b.counted in let d = h.counted in omega (arith, c, d, le));
}

pub below_all : (count k n : ℕ) → k ≤ count → AreCountedBelow count k n → HasEntries count n
below_all count k n le b = record {
  rows = b.rows;
  are_rows = record { few = (let f = b.few in omega (arith, f, le)); each = b.each };
  counted = b.counted;
}

-- the lemmas on rows that a function uses together
pub ruleset below = (none_below, below_all)

-- the entries take more than there is room for
pub more_entries : (count n room bytes : ℕ) → HasEntries count n → bytes ≤ entry_bytes * n → room < bytes →
    HasMoreEntries count room
more_entries count n room bytes h le lt = record {
  rows = h.rows;
  are_rows = h.are_rows;
  more = (let c = h.counted in omega (arith, c, le, lt));
}

-- the numbers alone, or the entries too, take more
pub more_numbers : (count primes room bytes : ℕ) → primes < most_primes → bytes ≤ number_bytes * (count * primes) → room < bytes →
    SolverTakesMore count room
more_numbers count primes room bytes few le lt = record {
  primes = primes;
  few = few;
  rows = [];
  are_rows = record { few = omega arith; each = λ row m. absurd (contains-nil row m) };
  more = (let m = count * primes in omega (arith, le, lt));
}

pub more_rows : (count primes room bytes : ℕ) → primes < most_primes → bytes ≤ number_bytes * (count * primes) → bytes ≤ room →
    HasMoreEntries count (room - bytes) → SolverTakesMore count room
more_rows count primes room bytes few le within h = record {
  primes = primes;
  few = few;
  rows = h.rows;
  are_rows = h.are_rows;
  more = (let m = count * primes in let lt = h.more in omega (arith, le, within, lt));
}

module _ {S : Type 0} (p : Program) (seen : S → Configuration) (suits : S → Type 0) (size : S → ℕ) where
  pub keeps_states : (s : State) (memory : ℕ) → TakesMore p seen suits size s memory →
      KeepsMore p seen suits size s memory
  keeps_states s memory h = record {
    states = h.states;
    primes = 0;
    few = omega arith;
    rows = [];
    more = (let m = length h.states * 0 in let lt = h.more in omega (arith, lt));
    are_rows = record { few = omega arith; each = λ row m. absurd (contains-nil row m) };
    suit = h.suit;
    different = h.different;
    reached = h.reached;
  }

  pub keeps_solver : (s : State) (memory bytes : ℕ) (states : List S) (nodes : List Node) →
      IsFull p (states_in seen states) nodes → AllSuit suits states → AreDifferent (states_in seen states) →
      AreReached p s (states_in seen states) → bytes ≤ bytes_of size states →
      SolverTakesMore (length nodes) (memory - bytes) → KeepsMore p seen suits size s memory
  keeps_solver s memory bytes states nodes full suit different reached le h =
      let long : length nodes ≡ length states = full.long ∙ states_long seen states in
      let k : SolverTakesMore (length states) (memory - bytes) =
      subst (λ z. SolverTakesMore z (memory - bytes)) long h in
      record {
        states = states;
        primes = k.primes;
        few = k.few;
        rows = k.rows;
        more = by_numbers (solver_bytes (length states) k.primes k.rows) k.more;
        are_rows = k.are_rows;
        suit = suit;
        different = different;
        reached = reached;
      }
    where
      by_numbers : (n : ℕ) → memory - bytes < n → memory < bytes_of size states + n
      by_numbers n lt = omega (arith, lt, le)
