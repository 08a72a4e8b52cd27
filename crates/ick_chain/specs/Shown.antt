-- Defines the choices that are shown for a row, and for the runs that never end.
use Rattle.std.specs.Prelude.{◌≡◌, ℕ, ◌≤◌, Bool, List, length, map, Some, slice_get}
use Rattle.std.specs.Global.{Vec}
use Rattle.ick_code.specs.meaning.State.{State}
use Rattle.ick_outcomes.specs.Programs.{Program, Leads, run, IsWhole}
use Rattle.ick_outcomes.specs.Tallies.{stop_text}
use Rattle.ick_chain.specs.Limits.{any, ended_weight}
use Rattle.ick_chain.specs.Chains.{IsChain}
use Rattle.ick_chain.specs.Rows.{Row}
use Rattle.ick_chain.specs.declared.chain.Node.{Node}

-- the run from s with these choices leads to t, under each limit from some limit on
pub record LeadTo (p : Program) (s : State) (c : List Bool) (t : State) : Type 0 where
  pub steps : ℕ
  pub leads : (l : ℕ) → steps ≤ l → Leads p s l c t steps

-- these choices lead from a node of a chain to another
abbrev pub LeadAlong : List Node → ℕ → List Bool → ℕ → Type 0
LeadAlong nodes from c at =
    (p : Program) (seen : ℕ → State) → IsChain p seen nodes → LeadTo p (seen from) c (seen at)

-- these choices lead from the first node of a chain to another
abbrev pub LeadToNode : List Node → List Bool → ℕ → Type 0
LeadToNode nodes c at = LeadAlong nodes 0 c at

-- c is whole, and its run writes and ends so, under each limit from some limit on
pub record HasOutcome (p : Program) (s : State) (l : ℕ) (output end : List ℕ) (c : List Bool) : Type 0 where
  pub whole : IsWhole p s l c
  pub same_output : (run p s l c).last.output ≡ output
  pub same_end : stop_text (run p s l c).stop ≡ end

pub record IsShown (p : Program) (s : State) (output end : List ℕ) (c : List Bool) : Type 0 where
  pub least : ℕ
  pub has : (l : ℕ) → least ≤ l → HasOutcome p s l output end c

-- the run with these choices leads to a state from which no run ends
pub record NeverEnds (p : Program) (s : State) (c : List Bool) : Type 0 where
  pub to : State
  pub leads : LeadTo p s c to
  pub never : (l : ℕ) → ended_weight p any to l ≡ 0

abbrev pub choices_of : List (Vec Bool) → List (List Bool)
choices_of shown = map (λ c. c.items) shown

-- for each row, a run that has its outcome
pub record AreShown (p : Program) (s : State) (rows : List Row) (shown : List (List Bool)) : Type 0 where
  pub long : length shown ≡ length rows
  pub each : (i : ℕ) (r : Row) (c : List Bool) → slice_get rows i ≡ Some r → slice_get shown i ≡ Some c →
      IsShown p s r.output r.end c
