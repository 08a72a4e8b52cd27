use Rattle.std.proofs.Common.{◌≡◌, ◌<◌, ◌≤◌, ◌-◌, ◌++◌, length, take, drop, vec_len}
use Rattle.std.proofs.Common.{vec_capacity}
use Rattle.ick_explorer.specs.ChoiceTexts.{grouped_text}
use Rattle.ick_explorer.specs.Printing.{comma_before}
use Rattle.ick_explorer.proofs.choice_texts.push_groups.Given as goal

abbrev pub invariant-groups : goal.invariant-groups
invariant-groups l = record {
  within : l.at < length l.choices;
  capacity : vec_capacity l.fn.out ≤ vec_capacity l.out;
  longer : vec_len l.fn.out ≤ vec_len l.out;
  front : take (vec_len l.fn.out) l.out.items ≡ l.fn.out.items;
  text : l.out.items ++ comma_before l.later ++ grouped_text (drop l.at l.choices) ≡ l.fn.out.items ++ grouped_text l.choices;
}

abbrev pub decreases-groups : goal.decreases-groups
decreases-groups l = length l.choices - l.at
