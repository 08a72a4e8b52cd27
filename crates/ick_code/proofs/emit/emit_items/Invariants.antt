use Rattle.std.proofs.Common.{take}
use Rattle.std.specs.List.{flat_map}
use Rattle.ick_code.specs.Tables.{table_slots}
use Rattle.ick_code.specs.Operations.{print_ops}
use Rattle.ick_code.specs.Emitted.{Emits}
use Rattle.ick_code.proofs.emit.emit_items.Given as goal

abbrev pub invariant-loop-item : goal.invariant-loop-item
invariant-loop-item l =
    Emits (flat_map (print_ops (table_slots l.table)) (take l.item-index l.items)) l.initial.draft l.draft
