use Rattle.std.proofs.Common.{◌≡◌, ◌⊎◌, ℕ, ◌<◌, None, Some, slice_get, slice_index_or}
use Rattle.ick_numbers.specs.Values.{natural}
use Rattle.ick_numbers.specs.declared.natural.Natural.{Natural}
use Rattle.ick_chain.proofs.counts.are_right.Given as goal

abbrev pub invariant-counts : goal.invariant-counts
invariant-counts l = (i : ℕ) (d : Natural) → i < l.at → (slice_get l.grades i ≡ Some None)
    ⊎ (natural (slice_index_or l.sums i d) ≡ natural (slice_index_or l.counts i d))
