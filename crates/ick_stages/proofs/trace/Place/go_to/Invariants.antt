use Rattle.std.proofs.Common.{◌≡◌, take}
use Rattle.ick_traces.specs.Traces.{pending_of}
use Rattle.ick_stages.proofs.trace.Place.go_to.Given as goal

abbrev pub invariant-loop-address : goal.invariant-loop-address
invariant-loop-address l = record {
  here : l.self.here ≡ l.fn.m.here;
  steps : l.self.steps ≡ l.fn.m.steps;
  pending : l.self.pending.items ≡ take l.address-index (pending_of l.candidate l.fn.m);
}
