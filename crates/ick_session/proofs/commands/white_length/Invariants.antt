use Rattle.std.proofs.Common.{◌≡◌, ◌≤◌, ◌+◌, ◌-◌, length, drop}
use Rattle.std.specs.List.{prefix_len}
use Rattle.ick_bits.specs.White.{is_white_byte}
use Rattle.ick_session.proofs.commands.white_length.Given as goal

abbrev pub invariant-loop-size : goal.invariant-loop-size
invariant-loop-size l = record {
  within : l.size ≤ length l.text;
  is : prefix_len is_white_byte l.text ≡ l.size + prefix_len is_white_byte (drop l.size l.text);
}

abbrev pub decreases-loop-size : goal.decreases-loop-size
decreases-loop-size l = length l.text - l.size
