use Rattle.std.proofs.Common.{take}
use Rattle.ick_numbers.specs.Values.{natural}
use Rattle.ick_chain.specs.ExactListings.{AreLineTexts}
use Rattle.ick_chain.specs.Lines.{lines_of}
use Rattle.ick_chain.proofs.line_text.lines_text.Given as goal

abbrev pub invariant-lines : goal.invariant-lines
invariant-lines l = AreLineTexts l.exact l.silent (natural l.parts) (lines_of (take l.line-index l.lines)) l.text.items
