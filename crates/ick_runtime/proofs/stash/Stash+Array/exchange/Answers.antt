use Rattle.std.proofs.Common.{arith, ◌-◌}
use Rattle.ick_runtime.proofs.StashingLemmas.{take_exchanged}
use Rattle.ick_runtime.proofs.stash.Stash+Array.exchange.Goals as goal

pub returns-clause-taken : goal.returns-clause-taken
returns-clause-taken c =
    rw c.exchange.ensures.array (take_exchanged c.args.self.now (c.args.self.now.depth - 1) c.index_mut.result.now
    c.exchange.new.other (omega (arith, c.requires)) c.index_mut.ensures.value)
