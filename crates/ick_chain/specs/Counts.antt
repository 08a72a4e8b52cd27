-- Defines how the runs that lead to the nodes of a chain are counted.
use Prim.Native.Nat.{zero, suc}
use Rattle.std.specs.Prelude.{◌≡◌, ℕ, ◌+◌, ◌*◌, ◌<◌, ◌≤◌, List, [], ◌∷◌, length, map, slice_get, Option, Some, None}
use Rattle.std.specs.Prelude.{option_map}
use Rattle.std.specs.List.{Contains}
use Rattle.ick_numbers.specs.Values.{natural}
use Rattle.ick_numbers.specs.declared.natural.Natural.{Natural}
use Rattle.ick_code.specs.meaning.State.{State}
use Rattle.ick_outcomes.specs.Programs.{Program}
use Rattle.ick_outcomes.specs.Tallies.{Test as OutcomeTest, tally}
use Rattle.ick_chain.specs.declared.chain.Fork.{Fork}
use Rattle.ick_chain.specs.declared.chain.Node.{Node}
use Rattle.ick_chain.specs.declared.chain.Node.TheVariants.{Ends, Goes, Stuck}
use Rattle.ick_chain.specs.Chains.{dot}
use Rattle.ick_chain.specs.Rows.{Row, IsTestOf, SameRow}
use Rattle.ick_chain.specs.Tallied.{IsOfEnded}

-- the values of the nodes that a fork leads to: both of a choice, and one if nothing is asked
abbrev pub along : (ℕ → ℕ) → ℕ → Fork → ℕ
along u zero f = u f.zero.to
along u (suc c) f = u f.zero.to + u f.one.to

abbrev pub along_of : (ℕ → ℕ) → Node → ℕ
along_of u Ends = 0
along_of u (Goes f) = along u f.chance f
along_of u (Stuck f) = 0

abbrev pub handed : (ℕ → ℕ) → List Node → List ℕ → ℕ
handed u [] ys = 0
handed u (n ∷ ns) [] = 0
handed u (n ∷ ns) (y ∷ ys) = y * along_of u n + handed u ns ys

-- Grades grow along edges. A node has none if a cycle is on some way to it
abbrev pub IsLower : Option ℕ → Option ℕ → Type 0
IsLower g None = Unit {0}
IsLower None (Some h) = ⊥
IsLower (Some g) (Some h) = g < h

abbrev pub IsEdgeGraded : List (Option ℕ) → Option ℕ → ℕ → Type 0
IsEdgeGraded grades g to = (h : Option ℕ) × (slice_get grades to ≡ Some h) × IsLower g h

pub record IsGraded (grades : List (Option ℕ)) (g : Option ℕ) (f : Fork) : Type 0 where
  pub zero : IsEdgeGraded grades g f.zero.to
  pub one : IsEdgeGraded grades g f.one.to

abbrev pub AreGraded : List Node → List (Option ℕ) → Type 0
AreGraded nodes grades = (i : ℕ) (f : Fork) (g : Option ℕ) → slice_get nodes i ≡ Some (Goes f) →
    slice_get grades i ≡ Some g → IsGraded grades g f

-- how many runs lead to each node that has a grade
pub record AreCounts (nodes : List Node) (grades : List (Option ℕ)) (counts : List ℕ) : Type 0 where
  pub long : length counts ≡ length nodes
  pub graded : length grades ≡ length nodes
  pub flows : (u : ℕ → ℕ) → ((i : ℕ) → slice_get grades i ≡ Some None → u i ≡ 0) →
      dot u counts ≡ u 0 + handed u nodes counts

-- n runs from s pass a test, under each limit from some limit on
pub record CountsRuns (p : Program) (s : State) (q : OutcomeTest) (n : ℕ) : Type 0 where
  pub least : ℕ
  pub counted : (l : ℕ) → least ≤ l → (tally p s l q).count ≡ n

-- a number for each node: 1 if it has no grade
pub record AreMarks (grades : List (Option ℕ)) (marks : List ℕ) : Type 0 where
  pub long : length marks ≡ length grades
  pub each : (i : ℕ) → slice_get grades i ≡ Some None → slice_get marks i ≡ Some 1

-- the row of counts has the count of a row, and the row of marks has none
pub record IsCounted (r counted endless : Row) (n : ℕ) : Type 0 where
  pub same_counted : SameRow counted r
  pub same_endless : SameRow endless r
  pub count : counted.weight ≡ n
  pub none : endless.weight ≡ 0

-- for each row that has a count: so many runs have its outcome, from some limit on
pub record AreCounted (p : Program) (s : State) (rows : List Row) (counts : List (Option ℕ)) : Type 0 where
  pub long : length counts ≡ length rows
  pub each : (i : ℕ) (r : Row) (n : ℕ) → slice_get rows i ≡ Some r → slice_get counts i ≡ Some (Some n) →
      (q : OutcomeTest) → IsTestOf r.output r.end q → IsOfEnded q → CountsRuns p s q n

abbrev pub counts_of : List (Option Natural) → List (Option ℕ)
counts_of counts = map (λ n. option_map natural n) counts

-- each row that has a count has it from rows of counts and of marks
abbrev pub AllCounted : List Row → List Row → List Row → List (Option ℕ) → Type 0
AllCounted rows counted endless counts =
    (length counts ≡ length rows) × ((i : ℕ) (r : Row) (n : ℕ) → slice_get rows i ≡ Some r →
    slice_get counts i ≡ Some (Some n) → (x : Row) × (y : Row) × Contains counted x × Contains endless y
    × IsCounted r x y n)
