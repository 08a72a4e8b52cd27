-- Worked rows, computed from the definitions: words that mean "done".
use Rattle.std.proofs.Common.{◌≡◌, true, false, refl}
use Rattle.std.specs.Fmt.{digits}
use Rattle.ick_runs.specs.Draws.{means_done}

-- the greatest words that mean "done" at the chances 1 and 99, and those after them
edge_low : means_done 42949672 1 ≡ true
unfolding means_done digits
edge_low = refl

edge_low_past : means_done 42949673 1 ≡ false
unfolding means_done digits
edge_low_past = refl

edge_high : means_done 4252017623 99 ≡ true
unfolding means_done digits
edge_high = refl

edge_high_past : means_done 4252017624 99 ≡ false
unfolding means_done digits
edge_high_past = refl
