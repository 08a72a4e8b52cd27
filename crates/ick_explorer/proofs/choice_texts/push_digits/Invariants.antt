use Rattle.std.proofs.Common.{◌≡◌, ◌+◌, ◌≤◌, ◌++◌, length, take, map, vec_len, vec_capacity}
use Rattle.ick_explorer.specs.ChoiceTexts.{digit_of}
use Rattle.ick_explorer.proofs.choice_texts.push_digits.Given as goal

abbrev pub invariant-loop-choice : goal.invariant-loop-choice
invariant-loop-choice l = record {
  items : l.out.items ≡ l.fn.out.items ++ map digit_of (take l.choice-index l.choices);
  len : vec_len l.out ≡ vec_len l.fn.out + l.choice-index;
  room : vec_len l.fn.out + length l.choices ≤ vec_capacity l.out;
  capacity : vec_capacity l.fn.out ≤ vec_capacity l.out;
}
