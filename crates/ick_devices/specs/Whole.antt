-- Counts the failures that reading from a source adds.
use Rattle.std.specs.Prelude.{ℕ, Result, Ok, Err}
use Rattle.ick_devices.specs.declared.whole.ReadFault.{ReadFault}
use Rattle.ick_devices.specs.declared.whole.ReadFault.TheVariants.{NoMemory, Failed}

abbrev pub read_failures : {T : Type 0} → Result T ReadFault → ℕ
read_failures (Ok _) = 0
read_failures (Err NoMemory) = 0
read_failures (Err Failed) = 1
