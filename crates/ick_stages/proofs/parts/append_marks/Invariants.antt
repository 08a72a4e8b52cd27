use Rattle.std.proofs.Common.{◌≡◌, take}
use Rattle.ick_inspect.specs.Text.{Adds}
use Rattle.ick_stages.specs.Parts.{parts_from}
use Rattle.ick_stages.proofs.PartLaws.{counts}
use Rattle.ick_stages.proofs.parts.append_marks.Given as goal

abbrev pub invariant-loop-mark : goal.invariant-loop-mark
invariant-loop-mark l = record {
  number : l.number ≡ counts (take l.mark-index l.marks);
  added : Adds l.fn.text l.text (parts_from 0 l.start (take l.mark-index l.marks) l.all);
}
