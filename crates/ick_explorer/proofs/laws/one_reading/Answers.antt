use Rattle.ick_explorer.proofs.GroupLaws.{choices_read, reads_one}
use Rattle.ick_explorer.proofs.laws.one_reading.Goals as goal

pub returns : goal.returns
returns c = record { printed = choices_read; unique = reads_one }
