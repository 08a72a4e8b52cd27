use Rattle.std.proofs.Common.{◌∙◌, ap, sym}
use Rattle.std.specs.List.{list_any}
use Rattle.ick_code.specs.Compiled.{code_slots}
use Rattle.ick_machine.specs.StateView.{present_state}
use Rattle.ick_inspect.proofs.AddLaws.{same, then}
use Rattle.ick_session.specs.Changes.{names_text}
use Rattle.ick_session.specs.Targets.{is_of_abstaining}
use Rattle.ick_session.proofs.ChangeLaws.{printed_same}
use Rattle.ick_session.proofs.changes.append_changes.Goals as goal

pub append_abstained-requires-clause-still : goal.append_abstained-requires-clause-still
append_abstained-requires-clause-still c =
    λ none. c.requires.still (ap (list_any is_of_abstaining) (sym c.ops_of-ops.ensures) ∙ none)

pub returns : goal.returns
returns c =
    let old = present_state c.args.before.now in
    let new = present_state c.args.after.now in
    then (then (then (then c.append_read.ensures
    (same (ap (λ ops. names_text (code_slots c.args.code.now) ops old new) c.ops_of-ops.ensures) c.append_names.ensures))
    c.append_abstained.ensures) c.append_returned.ensures)
    (same (printed_same old new _ c.output.ensures) c.append_printed.ensures)
