use Rattle.std.proofs.Common.{ap}
use Rattle.ick_syntax.specs.StatementTree.{StatementTree}
use Rattle.ick_source.proofs.seen.seen_at.Goals as goal

pub returns : goal.returns
returns c =
    let found = rw c.in-Some.is at c.in-Ok.ensures in (
      (
        found.0.0,
        found.0.1,
        record {
          reads = found.0.2;
          label = c.head_digits.ensures _ _ _ found.0.1.says.opening;
          used =
              c.used_at-used.ensures c.in-Some.read.to found.0.0 found.0.1
              (ap (λ (u : StatementTree). u.body) found.0.2.clamped);
        },
      ),
      found.1,
    )
