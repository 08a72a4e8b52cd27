-- What the answers of a machine stand for.
use Rattle.std.specs.Prelude.{Option, Some, None}
use Rattle.ick_code.specs.meaning.State.{Ending, gave_up, faulted}
use Rattle.ick_code.specs.meaning.Move.{Asking, plain, choice, ended}
use Rattle.ick_backtrack.specs.declared.asking.End.{End}
use Rattle.ick_backtrack.specs.declared.asking.End.TheVariants.{GiveUp, Fault as Faulted, Limit}
use Rattle.ick_backtrack.specs.declared.asking.Ask.{Ask}
use Rattle.ick_backtrack.specs.declared.asking.Ask.TheVariants.{Plain, Choice, Ended}

-- how a run under a limit on steps ends: as the program does, or at the limit
pub data Finish : Type 0 where
  finished : Ending → Finish
  at_limit : Finish

abbrev pub finish_of : End → Finish
finish_of GiveUp = finished gave_up
finish_of (Faulted f) = finished (faulted f.kind f.statement f.subject.now)
finish_of Limit = at_limit

-- what an answer asks; a machine never answers that the limit was reached
abbrev pub asked_at_end : Finish → Option Asking
asked_at_end (finished ending) = Some (ended ending)
asked_at_end at_limit = None

abbrev pub asked_of : Ask → Option Asking
asked_of Plain = Some plain
asked_of (Choice chance) = Some (choice chance)
asked_of (Ended end) = asked_at_end (finish_of end)

-- whether a run goes on: it hasn't ended
abbrev pub IsGoing : Asking → Type 0
IsGoing plain = Unit {0}
IsGoing (choice _) = Unit {0}
IsGoing (ended _) = ⊥
