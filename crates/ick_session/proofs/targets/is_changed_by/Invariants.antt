use Rattle.std.proofs.Common.{◌≡◌, false, take}
use Rattle.std.specs.List.{list_any}
use Rattle.ick_code.specs.Compiled.{code_slots}
use Rattle.ick_session.specs.Targets.{changed_name, is_name}
use Rattle.ick_session.proofs.targets.is_changed_by.Given as goal

abbrev pub invariant-loop-op : goal.invariant-loop-op
invariant-loop-op l =
    list_any (λ op. is_name l.name (changed_name (code_slots l.code) op)) (take l.op-index l.ops) ≡ false
