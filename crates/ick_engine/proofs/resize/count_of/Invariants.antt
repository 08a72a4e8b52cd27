use Rattle.std.proofs.Common.{◌≡◌, ◌*◌, ◌≤◌, drop, map, min}
use Rattle.ick_bits.specs.Values.{number_of}
use Rattle.ick_code.specs.meaning.Value.{product}
use Rattle.ick_instructions.specs.Meaning.{values_of}
use Rattle.ick_engine.proofs.resize.count_of.Given as goal

abbrev pub invariant-loop-register : goal.invariant-loop-register
invariant-loop-register l = record {
  rest : min (l.count * product (map number_of (values_of (drop l.register-index l.subscripts.order.now) l.subscripts.registers.now))) 65537
      ≡ min (product (map number_of (values_of l.subscripts.order.now l.subscripts.registers.now))) 65537;
  few : l.count ≤ 65537;
}
