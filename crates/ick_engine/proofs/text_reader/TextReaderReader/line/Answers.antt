use Rattle.std.proofs.Common.{rules}
use Rattle.ick_engine.proofs.TextLemmas.{rest_of, word_line, number_line, large_line}
use Rattle.ick_engine.proofs.text_reader.TextReaderReader.line.Goals.{in-Ok, in-Err-Word, in-Err-TooLarge}
use Rattle.ick_engine.proofs.text_reader.TextReaderReader.line.Goals as goal

pub returns-clause-next : goal.returns-clause-next
returns-clause-next c = elim c.match-digits_value.branch [
  | in-Err-Word w ↦ search (rules, rest_of, word_line)
  | in-Ok w ↦ search (rules, rest_of, number_line)
  | in-Err-TooLarge w ↦ search (rules, rest_of, large_line)
]
