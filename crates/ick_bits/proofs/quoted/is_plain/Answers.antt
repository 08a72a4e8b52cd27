use Rattle.std.proofs.Common.{arith}
use Rattle.ick_bits.proofs.QuotedLemmas.{kept}
use Rattle.ick_bits.proofs.quoted.is_plain.Goals as goal

pub returns : goal.returns
returns c one = kept c.args.byte (omega arith) one
