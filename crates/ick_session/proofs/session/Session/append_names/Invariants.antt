use Rattle.std.proofs.Common.{◌-◌, length}
use Rattle.ick_step.specs.Seen.{present}
use Rattle.ick_step.specs.Histories.{history}
use Rattle.ick_session.specs.Commands.{words_from, words_of}
use Rattle.ick_session.proofs.PrintLaws.{Prints, lines}
use Rattle.ick_session.proofs.session.Session.append_names.Given as goal

abbrev pub invariant-loop-at : goal.invariant-loop-at
invariant-loop-at l =
    let s = present (history l.self.history) in
    Prints s (lines s (words_of l.names)) l.fn.out l.out (words_from (length l.names - l._at) l.rest)
