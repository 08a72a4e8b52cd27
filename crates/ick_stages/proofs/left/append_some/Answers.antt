use Rattle.std.proofs.Common.{ap}
use Rattle.ick_inspect.proofs.AddLaws.{same, then}
use Rattle.ick_stages.specs.Left.{number_by, some_makers}
use Rattle.ick_stages.proofs.left.append_some.Goals as goal

pub returns : goal.returns
unfolding some_makers
returns c =
    then (then (then c.push.ensures c.append_number.ensures) (same (ap number_by c.maker_at.ensures)
    c.append_number-2.ensures)) c.append_store.ensures
