use Rattle.std.proofs.Common.{◌++◌, ap, codes}
use Rattle.std.specs.Prelude.{decimal}
use Rattle.ick_inspect.proofs.AddLaws.{same, then}
use Rattle.ick_session.proofs.shown.append_asked.Goals as goal

pub returns : goal.returns
returns c =
    same (ap (λ k. codes "  asks %" ++ decimal k ++ codes "\n") c.from.ensures)
    (then (then c.push.ensures c.push_decimal.ensures) c.push-2.ensures)
