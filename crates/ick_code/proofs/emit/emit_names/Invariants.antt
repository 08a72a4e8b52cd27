use Rattle.std.proofs.Common.{take}
use Rattle.ick_code.specs.Tables.{table_slots}
use Rattle.ick_code.specs.Operations.{name_ops}
use Rattle.ick_code.specs.Forms.{on_name_of}
use Rattle.ick_code.specs.Emitted.{Emits}
use Rattle.ick_code.proofs.emit.emit_names.Given as goal

abbrev pub invariant-loop-name : goal.invariant-loop-name
invariant-loop-name l =
    Emits (name_ops (table_slots l.table) (on_name_of l.form) (take l.name-index l.names)) l.initial.draft l.draft
