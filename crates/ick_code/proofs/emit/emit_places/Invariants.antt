use Rattle.std.proofs.Common.{take}
use Rattle.std.specs.List.{flat_map}
use Rattle.ick_code.specs.Tables.{table_slots}
use Rattle.ick_code.specs.Operations.{read_ops}
use Rattle.ick_code.specs.Emitted.{Emits}
use Rattle.ick_code.proofs.emit.emit_places.Given as goal

abbrev pub invariant-loop-place : goal.invariant-loop-place
invariant-loop-place l =
    Emits (flat_map (read_ops (table_slots l.table)) (take l.place-index l.places)) l.initial.draft l.draft
