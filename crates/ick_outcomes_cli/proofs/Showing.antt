-- Proves that a call over an error stream that shows no reports is served as one without reports.
use Rattle.std.proofs.Common.{◌≡◌, ℕ, Bool, false, List, subst}
use Rattle.ick_chain.specs.Progress.{OnlyShows}
use Rattle.ick_outcomes_cli.specs.Behind.{Behind}

pub served_unshown : {E : Type 0} {told : Bool} {failed : E → ℕ} {written : E → List ℕ} {shows : E → Bool}
    {IsServed : E → Type 0} (errors : E) → Behind (OnlyShows told failed written shows errors) IsServed
    → shows errors ≡ false → IsServed errors
served_unshown {E} {told} {failed} {written} {shows} {IsServed} errors behind unshown = subst IsServed (behind.shown.silent unshown) behind.served
