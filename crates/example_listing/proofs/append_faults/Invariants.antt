use Rattle.std.proofs.Common.{Bool, List}
use Rattle.ick_code.specs.meaning.State.{State}
use Rattle.ick_explorer.specs.Explorers.{explored}
use Rattle.ick_explorer.specs.Standing.{Stands, IsListingAt}
use Rattle.example_listing.specs.Along.{IsAlong}
use Rattle.example_listing.proofs.append_faults.Given as goal

abbrev pub invariant-runs : goal.invariant-runs
invariant-runs g l = (s : State) (cs : List (List Bool)) → Stands s (explored l.initial.explorer) →
    IsListingAt s (explored l.initial.explorer) cs →
    IsAlong s cs (explored l.initial.explorer) (explored l.explorer) l.initial.out.items l.out.items
