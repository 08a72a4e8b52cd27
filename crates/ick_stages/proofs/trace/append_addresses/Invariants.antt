use Rattle.std.proofs.Common.{take}
use Rattle.ick_inspect.specs.Text.{Adds}
use Rattle.ick_stages.specs.Traces.{addresses_text}
use Rattle.ick_stages.proofs.trace.append_addresses.Given as goal

abbrev pub invariant-loop-address : goal.invariant-loop-address
invariant-loop-address l = Adds l.fn.text l.text (addresses_text (take l.address-index l.pending))
