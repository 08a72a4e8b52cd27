use Rattle.std.proofs.Common.{take}
use Rattle.ick_code.specs.Tables.{Adds}
use Rattle.ick_code.proofs.table.Table.add_all.Given as goal

abbrev pub invariant-loop-name : goal.invariant-loop-name
invariant-loop-name l = Adds (take l.name-index l.names) l.initial.self l.self
