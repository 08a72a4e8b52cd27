use Rattle.std.proofs.Common.{◌≡◌, true, take}
use Rattle.std.specs.List.{list_all}
use Rattle.ick_explorer.specs.ChoiceTexts.{is_digit}
use Rattle.ick_explorer.proofs.reading.all_digits.Given as goal

abbrev pub invariant-loop-byte : goal.invariant-loop-byte
invariant-loop-byte l = list_all is_digit (take l.byte-index l.text) ≡ true
