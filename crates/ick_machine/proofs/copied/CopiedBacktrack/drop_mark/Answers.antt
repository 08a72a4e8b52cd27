use mathlib.Core.Logic.{∥∥₁_map}
use Rattle.ick_machine.proofs.CopyLemmas.{less}
use Rattle.ick_machine.proofs.copied.CopiedBacktrack.drop_mark.Goals as goal

pub invariant_of-self : goal.invariant_of-self
invariant_of-self c =
    let m = c.args.self.now in
    record {
      unmarked = m.unmarked;
      copied = ∥∥₁_map m.copied
          (less m.machine.lowered.code.now m.machine.lowered.parts c.pop.new.self.items m.copies.items c.pop.result
          c.pop.ensures.items);
    }
