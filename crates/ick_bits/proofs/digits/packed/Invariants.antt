use Rattle.std.proofs.Common.{◌≡◌, ◌<◌, ◌+◌, ◌^◌, take}
use Rattle.ick_bits.proofs.PackedLemmas.{pack, small}
use Rattle.ick_bits.proofs.digits.packed.Given as goal

abbrev pub invariant-loop-byte : goal.invariant-loop-byte
invariant-loop-byte l =
    record {
      value : l.packed ≡ pack (small (take l.byte-index l.word));
      bound : l.packed < 256 ^ (l.byte-index + 1);
    }
