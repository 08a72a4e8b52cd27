-- The error for out of memory.
use Rattle.ick_bits.specs.declared.memory.NoMemory.{NoMemory}

-- its only value
abbrev pub no_memory : NoMemory
no_memory = record {}
