-- Defines which refusal a fault of a feed becomes.
use Rattle.ick_devices.specs.declared.feed_fault.FeedFault.{FeedFault}
use Rattle.ick_devices.specs.declared.feed_fault.FeedFault.TheVariants.{NoMemory as FeedOutOfMemory}
use Rattle.ick_devices.specs.declared.feed_fault.FeedFault.TheVariants.{Read as ReadFailed}
use Rattle.ick_explorer.specs.declared.errors.RunsError.{RunsError}
use Rattle.ick_explorer.specs.declared.errors.RunsError.TheVariants.{NoMemory, Read}

abbrev pub error_of : FeedFault → RunsError
error_of FeedOutOfMemory = NoMemory
error_of ReadFailed = Read
