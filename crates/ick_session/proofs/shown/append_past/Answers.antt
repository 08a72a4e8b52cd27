use Rattle.std.proofs.Common.{◌++◌, ap, codes}
use Rattle.std.specs.Prelude.{decimal}
use Rattle.ick_inspect.proofs.AddLaws.{same, then}
use Rattle.ick_session.proofs.shown.append_past.Goals as goal

pub returns : goal.returns
returns c =
    same (ap (λ k. decimal k ++ codes " past the last statement") c.from.ensures)
    (then c.push_decimal.ensures c.push.ensures)
