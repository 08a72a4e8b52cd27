use Rattle.std.proofs.Common.{subst, sym}
use Rattle.ick_source.specs.Seen.{SeesAll}
use Rattle.ick_source.proofs.AllFaultLemmas.{answered}
use Rattle.ick_source.proofs.statements.surveyed.Goals as goal

pub returns : goal.returns
returns c =
    let read = c.in_ok-statements.ensures.seen in
    let all = c.in_ok-faults.ensures read.trees (subst (λ xs. SeesAll xs read.trees) (sym c.deref.ensures.value) read.sees) in
    record {
      trees = read.trees;
      cut = read.cut;
      statements = read.sees;
      faults = all;
      answer = answered c.in_ok-faults.faults.items read.cut c.requires all;
    }
