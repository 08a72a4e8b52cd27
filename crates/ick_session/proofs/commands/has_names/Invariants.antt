use Rattle.std.proofs.Common.{◌≡◌, ◌-◌, length}
use Rattle.ick_session.specs.Commands.{all_named, words_from, words_of}
use Rattle.ick_session.proofs.commands.has_names.Given as goal

abbrev pub invariant-loop-at : goal.invariant-loop-at
invariant-loop-at l = all_named (words_of l.text) ≡ all_named (words_from (length l.text - l._at) l.rest)
