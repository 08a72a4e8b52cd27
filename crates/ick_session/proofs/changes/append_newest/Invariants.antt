use Rattle.std.proofs.Common.{◌++◌, take}
use Rattle.std.specs.Prelude.{codes, reverse}
use Rattle.ick_inspect.specs.Text.{Adds, numbers_text}
use Rattle.ick_session.proofs.changes.append_newest.Given as goal

abbrev pub invariant-loop-back : goal.invariant-loop-back
invariant-loop-back l =
    Adds l.fn.out l.out (l.word ++ numbers_text (codes " ") (take l.back (reverse l.addresses)))
