use Rattle.ick_runtime.specs.Memory.{view_in}
use Rattle.ick_machine.proofs.Readiness.{unless_with}
use Rattle.ick_machine.proofs.live.Live.clear_output.Goals as goal

pub invariant_of-self : goal.invariant_of-self
invariant_of-self c =
    let live = c.args.self.now in
    record {
      ready = unless_with live.lowered.code.now live.lowered.parts (view_in live.memory) live.failed
          c.clear.new.self.items live.ready;
    }
