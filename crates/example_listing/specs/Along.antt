-- Describes how the lines are appended run by run, for proofs.
use Rattle.std.specs.Prelude.{◌≡◌, ℕ, ◌++◌, Bool, List}
use Rattle.ick_code.specs.meaning.State.{State}
use Rattle.ick_explorer.specs.Standing.{Explored, Stands, IsListingAt}
use Rattle.example_listing.specs.FaultLines.{fault_lines}

-- the runs of rest are left of the listing cs, which is the listing from the position of old
pub record Along (s : State) (cs : List (List Bool)) (old now : Explored) (w w' : List ℕ)
    (rest : List (List Bool)) : Type 0 where
  pub program : now.program ≡ old.program
  pub limit : now.limit ≡ old.limit
  pub stands : Stands s now
  pub listing : IsListingAt s now rest
  pub text : w ++ fault_lines old.program s old.limit cs ≡ w' ++ fault_lines old.program s old.limit rest

-- some runs of the listing cs are left
abbrev pub IsAlong : State → List (List Bool) → Explored → Explored → List ℕ → List ℕ → Type 0
IsAlong s cs old now w w' = (rest : List (List Bool)) × Along s cs old now w w' rest
