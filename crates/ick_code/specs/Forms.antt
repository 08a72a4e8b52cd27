-- The operation that a list's statement does for each of its members.
use Rattle.ick_syntax.specs.declared.body.Gerund.{Gerund}
use Rattle.ick_code.specs.declared.op.Op.{Op}
use Rattle.ick_code.specs.declared.op.Op.TheVariants.{Save, Restore, Hide, Show, AbstainKind, ReinstateKind}
use Rattle.ick_code.specs.declared.op.SlotName.{SlotName}
use Rattle.ick_code.specs.declared.emit.NameForm.{NameForm}
use Rattle.ick_code.specs.declared.emit.NameForm.TheVariants as form
use Rattle.ick_code.specs.declared.emit.Switch.{Switch}
use Rattle.ick_code.specs.declared.emit.Switch.TheVariants as switch

abbrev pub on_name_of : NameForm → SlotName → Op
on_name_of form.Save name = Save name
on_name_of form.Restore name = Restore name
on_name_of form.Hide name = Hide name
on_name_of form.Show name = Show name

abbrev pub on_gerund_of : Switch → Gerund → Op
on_gerund_of switch.Abstain gerund = AbstainKind gerund
on_gerund_of switch.Reinstate gerund = ReinstateKind gerund
