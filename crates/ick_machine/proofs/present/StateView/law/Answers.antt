use Rattle.std.proofs.Common.{rules}
use Rattle.ick_marks.proofs.Readiness.{ready_of}
use Rattle.ick_machine.proofs.present.StateView.law.Goals as goal

pub returns : goal.returns
returns c = search (rules, ready_of)
