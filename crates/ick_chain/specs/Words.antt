-- Defines lists of choices that are kept by numbers: each is another list with one more choice behind it.
use Prim.Native.Nat.{zero, suc}
use Rattle.std.specs.Prelude.{◌≡◌, ◌⊎◌, ℕ, ◌+◌, ◌<◌, Bool, true, false, List, [], ◌∷◌, ◌++◌, Option, Some, None}
use Rattle.std.specs.Prelude.{length, slice_get, slice_index_or}
use Rattle.ick_chain.specs.FirstRuns.{IsNoMore}
use Rattle.ick_chain.specs.Ways.{IsForkOf, IsWay}
use Rattle.ick_chain.specs.declared.chain.Fork.{Fork}
use Rattle.ick_chain.specs.declared.chain.Node.{Node}
use Rattle.ick_chain.specs.declared.words.Word.{Word}
use Rattle.ick_chain.specs.declared.words.Labels.{Labels}

abbrev pub word_by : Option Word → (ℕ → List Bool) → List Bool
word_by None rest = []
word_by (Some x) rest = rest x.parent ++ x.choice ∷ []

unfoldable pub word : List Word → ℕ → ℕ → List Bool
word xs zero m = []
word xs (suc f) zero = []
word xs (suc f) (suc m) = word_by (slice_get xs (suc m)) (λ q. word xs f q)

-- the list with a number. That with the number 0 is empty
abbrev pub word_of : List Word → ℕ → List Bool
word_of xs m = word xs m m

-- the list of a node
abbrev pub word_at : Labels → ℕ → List Bool
word_at labels i = word_of labels.words.items (slice_index_or labels.of.items i 0)

abbrev pub IsSooner : Word → Word → Type 0
IsSooner x y = (x.parent < y.parent) ⊎ ((x.parent ≡ y.parent) × (x.choice ≡ false) × (y.choice ≡ true))

-- each list comes behind the one that it grows from, and they rise
pub record AreWords (xs : List Word) : Type 0 where
  pub back : (m : ℕ) (x : Word) → 0 < m → slice_get xs m ≡ Some x → x.parent < m
  pub rising : (m : ℕ) (x y : Word) → 0 < m → slice_get xs m ≡ Some x → slice_get xs (m + 1) ≡ Some y → IsSooner x y

-- a list comes behind the one that it grows from, and behind that with the number before, if this isn't empty
pub record IsRisen (xs : List Word) (n : ℕ) : Type 0 where
  pub back : (x : Word) → slice_get xs n ≡ Some x → x.parent < n
  pub rising : (m : ℕ) (x y : Word) → 0 < m → m + 1 ≡ n → slice_get xs m ≡ Some x → slice_get xs n ≡ Some y →
      IsSooner x y

-- a choice is another, or before it
abbrev pub IsNoHigher : Bool → Bool → Type 0
IsNoHigher x b = (x ≡ b) ⊎ ((x ≡ false) × (b ≡ true))

-- the list with a number is no more than another with one more choice behind it
pub data IsWithin (xs : List Word) (to from : ℕ) (b : Bool) : Type 0 where
  empty : to ≡ 0 → IsWithin xs to from b
  sooner : (x : Word) → 0 < to → slice_get xs to ≡ Some x → x.parent < from → IsWithin xs to from b
  same : (x : Word) → 0 < to → slice_get xs to ≡ Some x → x.parent ≡ from → IsNoHigher x.choice b →
      IsWithin xs to from b

abbrev pub Anywhere : ℕ → Type 0
Anywhere i = Unit {0}

-- a node has a list, and the list of each node that it leads to is no more than its own with the choice behind it
pub record IsLeastNode (labels : Labels) (i : ℕ) (n : Node) : Type 0 where
  pub within : slice_index_or labels.of.items i 0 < length labels.words.items
  pub ways : (f : Fork) → IsForkOf n f → IsWay Anywhere IsNoMore (word_at labels) i f

-- the list of each node is no more than any other that leads to it
pub record AreLeast (nodes : List Node) (labels : Labels) : Type 0 where
  pub first : word_at labels 0 ≡ []
  pub each : (i : ℕ) (n : Node) → slice_get nodes i ≡ Some n → IsLeastNode labels i n
