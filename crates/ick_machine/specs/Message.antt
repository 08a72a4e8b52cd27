-- The message that a run ends with.
use Rattle.std.specs.Prelude.{ℕ, List, []}
use Rattle.ick_bits.specs.Faults.{message_of}
use Rattle.ick_code.specs.meaning.State.{Ending, gave_up, faulted}
use Rattle.ick_code.specs.meaning.Move.{Asking, plain, choice, ended}

-- the message of its fault, or nothing
abbrev pub end_message : Ending → List ℕ
end_message gave_up = []
end_message (faulted kind statement subject) = message_of kind statement subject

-- there is none before the end
abbrev pub asked_message : Asking → List ℕ
asked_message plain = []
asked_message (choice chance) = []
asked_message (ended ending) = end_message ending
