use Rattle.std.proofs.Common.{arith}
use Rattle.std.proofs.lemmas.List.{take_rest}
use Rattle.ick_bits.proofs.DigitLemmas.{ink_first}
use Rattle.ick_bits.proofs.digits.word_end.Goals as goal

pub returns-clause-after : goal.returns-clause-after
returns-clause-after c =
    let ink = ink_first c.args.line.now c.args.from c.requires.position c.requires.begins in
    omega (arith, ink, rw (take_rest c.args.line.now c.args.from) at c.ink_length.ensures)
