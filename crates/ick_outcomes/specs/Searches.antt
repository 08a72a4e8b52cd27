-- Defines the invariant of a search: each run is in one of its rows, or goes on from one of its nodes.
use Prim.Native.Nat.{suc}
use Rattle.std.specs.Prelude.{◌≡◌, ℕ, ◌-◌, ◌<◌, ◌≤◌, max, List, [], ◌∷◌, ◌++◌, length, Option, Some, None}
use Rattle.std.specs.Prelude.{slice_index_or}
use Rattle.std.specs.List.{All}
use Rattle.ick_code.specs.meaning.Move.{Asking, plain, choice}
use Rattle.ick_outcomes.specs.Programs.{ask}
use Rattle.ick_outcomes.specs.Tallies.{Test, Tally, join}
use Rattle.ick_outcomes.specs.Accounts.{Configuration, Pending, ahead, all_ahead, all_counted, any_outcome}
use Rattle.ick_outcomes.specs.Accounts.{Admits, AreDistinct}
use Rattle.ick_outcomes.specs.Seen.{pending_of, nodes_of, rows_of}
use Rattle.ick_outcomes.specs.declared.pending.Node.{Node}
use Rattle.ick_outcomes.specs.declared.bucket.Bucket.{Bucket}
use Rattle.ick_outcomes.specs.declared.search.Search.{Search}

-- what a node asks that waits with this chance
abbrev pub asking : Option ℕ → Asking
asking None = plain
asking (Some chance) = choice chance

-- a node can wait: it goes on, asks for what it says, and has a step left
pub record Waits {S : Type 0} (seen : S → Configuration) (suits : S → Type 0) (n : Node S) : Type 0 where
  pub suited : suits n.state
  pub asks : ask (seen n.state).program (seen n.state).state ≡ asking n.chance
  pub some : 0 < n.left

-- another node with the same state and the same number of steps left
pub record StaysAt {S : Type 0} (old new : Node S) : Type 0 where
  pub same_state : new.state ≡ old.state
  pub same_chance : new.chance ≡ old.chance
  pub same_left : new.left ≡ old.left

-- each node of a bucket has the number of steps left that the bucket has
abbrev pub IsLevel : {S : Type 0} → Bucket S → Type 0
IsLevel b = All (λ n. n.left ≡ b.left) b.nodes.items

-- a node was added to a bucket, or merged into one of its nodes
pub record Joins {S : Type 0} (seen : S → Configuration) (suits : S → Type 0) (n : Node S) (old new : Bucket S)
    : Type 0 where
  pub admits : Admits (nodes_of seen old.nodes.items) (pending_of seen n) (nodes_of seen new.nodes.items)
  pub same_left : new.left ≡ old.left
  pub level : IsLevel new
  pub wait : All (Waits seen suits) old.nodes.items → All (Waits seen suits) new.nodes.items

-- the nodes of all buckets
abbrev pub nodes_in : {S : Type 0} → List (Bucket S) → List (Node S)
nodes_in [] = []
nodes_in (b ∷ bs) = b.nodes.items ++ nodes_in bs

-- one more than the greatest number of steps that a bucket has left, or 0 if there is none
abbrev pub height : {S : Type 0} → List (Bucket S) → ℕ
height [] = 0
height (b ∷ bs) = max (suc b.left) (height bs)

-- each bucket has more steps left than the bucket before it, and the first has more than `least`
abbrev pub AreRising : {S : Type 0} → ℕ → List (Bucket S) → Type 0
AreRising least [] = Unit {0}
AreRising least (b ∷ bs) = (least < b.left) × IsLevel b × AreRising b.left bs

-- a bucket with so many steps left is at this index, and the nodes are as before
pub record HasBucket {S : Type 0} (left at : ℕ) (old new : List (Bucket S)) : Type 0 where
  pub within : at < length new
  pub there : (d : Bucket S) → (slice_index_or new at d).left ≡ left
  pub same_nodes : nodes_in new ≡ nodes_in old
  pub rising : AreRising 0 new
  pub highest : height new ≤ max (suc left) (height old)

-- the last bucket was taken out
pub record TakesDue {S : Type 0} (due : Bucket S) (old new : Search S) : Type 0 where
  pub last : old.buckets.items ≡ new.buckets.items ++ due ∷ []
  pub fewer : new.count ≡ old.count - length due.nodes.items
  pub same_rows : new.table.rows.items ≡ old.table.rows.items

-- no bucket is left, and the rows are as before
pub record IsDone {S : Type 0} (old new : Search S) : Type 0 where
  pub none : old.buckets.items ≡ []
  pub same_rows : new.table.rows.items ≡ old.table.rows.items

-- the tally of the runs that go on from the nodes of a search or are in its rows
abbrev pub runs_of : {S : Type 0} → (S → Configuration) → Test → Search S → Tally
runs_of seen q s =
    join (all_ahead q (nodes_of seen (nodes_in s.buckets.items))) (all_counted q (rows_of s.table.rows.items))

-- the number of runs that go on from these nodes or from those of a search, or are in its rows
abbrev pub runs_with : {S : Type 0} → (S → Configuration) → List (Node S) → Search S → ℕ
runs_with seen ns s = (join (all_ahead any_outcome (nodes_of seen ns)) (runs_of seen any_outcome s)).count

-- the nodes of a search can wait, its buckets rise, it has at least as many nodes as it says, and no two of its rows
-- have the same outcome
pub record IsFiled {S : Type 0} (seen : S → Configuration) (suits : S → Type 0) (s : Search S) : Type 0 where
  pub wait : All (Waits seen suits) (nodes_in s.buckets.items)
  pub rising : AreRising 0 s.buckets.items
  pub few : s.count ≤ length (nodes_in s.buckets.items)
  pub apart : AreDistinct (rows_of s.table.rows.items)

-- these runs were added to a search, and each node that was added has at most `most` steps left
pub record Adds {S : Type 0} (seen : S → Configuration) (suits : S → Type 0) (runs : Test → Tally) (most : ℕ)
    (old new : Search S) : Type 0 where
  pub added : (q : Test) → runs_of seen q new ≡ join (runs q) (runs_of seen q old)
  pub highest : height new.buckets.items ≤ max (suc most) (height old.buckets.items)
  pub filed : IsFiled seen suits new

-- the runs from n are those of a search
pub record IsAccount {S : Type 0} (seen : S → Configuration) (suits : S → Type 0) (n : Pending) (s : Search S)
    : Type 0 where
  pub whole : (q : Test) → ahead q n ≡ runs_of seen q s
  pub filed : IsFiled seen suits s
