use Rattle.std.proofs.Common.{◌≡◌, ◌==◌, ◌≤◌, length, take, map, vec_len, vec_capacity}
use Rattle.ick_explorer.proofs.reading.choices_of.Given as goal

abbrev pub invariant-loop-byte : goal.invariant-loop-byte
invariant-loop-byte l = record {
  items : l.choices.items ≡ map (λ b. b == 49) (take l.byte-index l.text);
  len : vec_len l.choices ≡ l.byte-index;
  room : length l.text ≤ vec_capacity l.choices;
}
