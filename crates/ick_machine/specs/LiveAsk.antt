-- What the answers of a machine without marks stand for.
use Rattle.ick_code.specs.meaning.State.{Ending, gave_up, faulted}
use Rattle.ick_code.specs.meaning.Move.{Asking, plain, choice, ended}
use Rattle.ick_machine.specs.declared.asking.EndKind.{EndKind}
use Rattle.ick_machine.specs.declared.asking.EndKind.TheVariants.{GiveUp, Fault}
use Rattle.ick_machine.specs.declared.asking.LiveAsk.{LiveAsk}
use Rattle.ick_machine.specs.declared.asking.LiveAsk.TheVariants.{Plain, Choice, Ended}

-- an end without its subject
abbrev pub end_kind_of : Ending → EndKind
end_kind_of gave_up = GiveUp
end_kind_of (faulted kind statement subject) = Fault kind statement

abbrev pub live_asked : Asking → LiveAsk
live_asked plain = Plain
live_asked (choice chance) = Choice chance
live_asked (ended ending) = Ended (end_kind_of ending)
