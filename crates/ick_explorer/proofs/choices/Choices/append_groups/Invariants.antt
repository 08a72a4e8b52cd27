use Rattle.std.proofs.Common.{◌≡◌, ◌++◌, take, map}
use Rattle.ick_explorer.specs.ChoiceTexts.{group_of, groups_text}
use Rattle.ick_explorer.specs.Choices.{seen_stretches}
use Rattle.ick_explorer.specs.Printing.{comma_before}
use Rattle.ick_explorer.proofs.KeptLaws.{comma}
use Rattle.ick_explorer.proofs.choices.Choices.append_groups.Given as goal

abbrev pub invariant-loop-stretch : goal.invariant-loop-stretch
invariant-loop-stretch l = record {
  text : l.out.items
      ≡ l.fn.out.items ++ groups_text (map group_of (take l.stretch-index (seen_stretches l.stretch-items)));
  later : comma_before l.later ≡ comma l.stretch-index;
}
