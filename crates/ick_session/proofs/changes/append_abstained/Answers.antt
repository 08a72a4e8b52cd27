use Rattle.std.proofs.Common.{length, ◌∙◌, sym}
use Rattle.ick_code.specs.Compiled.{code_program}
use Rattle.ick_machine.specs.StateView.{present_state}
use Rattle.ick_inspect.proofs.AddLaws.{nothing, same, then}
use Rattle.ick_session.proofs.ChangeLaws.{abstained_is, none_newly}
use Rattle.ick_session.proofs.changes.append_abstained.Goals as goal

pub returns-then-may_abstain : goal.returns-then-may_abstain
returns-then-may_abstain c =
    same (abstained_is (present_state c.args.before.now) (present_state c.args.after.now)
    (length (code_program c.args.code.now)) c.count.result c.count-then-may_abstain.result
    c.count.ensures c.count-then-may_abstain.ensures)
    (then c.append_all_newly.ensures c.append_all_newly-then-may_abstain.ensures)

pub returns-else-may_abstain : goal.returns-else-may_abstain
returns-else-may_abstain c =
    same (none_newly (present_state c.args.before.now) (present_state c.args.after.now)
    (length (code_program c.args.code.now))
    (c.requires.still (sym c.may_abstain.ensures ∙ c.if-may_abstain.false))) (nothing c.args.out.now)
