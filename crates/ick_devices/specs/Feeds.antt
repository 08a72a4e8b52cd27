-- Words of the contracts of feeds.
use Rattle.std.specs.Prelude.{◌≡◌, ◌==◌, ◌<◌, ℕ, List, length, get_or, false, Result, Ok, Err}
use Rattle.ick_devices.specs.declared.feed_fault.FeedFault.{FeedFault}
use Rattle.ick_devices.specs.declared.feed_fault.FeedFault.TheVariants.{NoMemory, Read}

-- how many reads of a feed have failed where this went wrong
abbrev pub failed_reads : FeedFault → ℕ
failed_reads NoMemory = 0
failed_reads Read = 1

-- and in a call with this answer
abbrev pub feed_failures : {T : Type 0} → Result T FeedFault → ℕ
feed_failures (Ok value) = 0
feed_failures (Err fault) = failed_reads fault

-- none of these bytes ends a line
abbrev pub HasNoEnd : List ℕ → Type 0
HasNoEnd bytes = (k : ℕ) → k < length bytes → (get_or bytes k 0 == 10) ≡ false
