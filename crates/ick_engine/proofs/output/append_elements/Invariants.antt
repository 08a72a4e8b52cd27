use Rattle.std.proofs.Common.{◌≡◌, ◌+◌, ◌≤◌, ◌++◌, take, vec_len, vec_capacity}
use Rattle.ick_code.specs.meaning.Tape.{tape_bytes, tape_after}
use Rattle.ick_engine.proofs.output.append_elements.Given as goal

abbrev pub invariant-loop-at : goal.invariant-loop-at
invariant-loop-at l = record {
  output : l.output.items ≡ l.initial.output.items ++ tape_bytes l.last (take l.at l.elements.items);
  position : l.position ≡ tape_after l.last (take l.at l.elements.items);
  room : vec_len l.initial.output + vec_len l.elements ≤ vec_capacity l.output;
  count : vec_len l.output ≡ vec_len l.initial.output + l.at;
}
