use Rattle.std.proofs.Common.{◌≡◌, Some, take}
use Rattle.ick_numbers.specs.Values.{natural}
use Rattle.ick_chain.specs.ExactListings.{all_runs}
use Rattle.ick_chain.specs.Lines.{lines_of}
use Rattle.ick_chain.proofs.total.count_all.Given as goal

abbrev pub invariant-lines : goal.invariant-lines
invariant-lines l = all_runs (lines_of (take l.line-index l.lines)) ≡ Some (natural l.sum)
