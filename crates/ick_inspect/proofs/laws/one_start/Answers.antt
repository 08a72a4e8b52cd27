use Rattle.ick_inspect.proofs.PlacedLemmas.{cut_placed}
use Rattle.ick_inspect.proofs.PositionLemmas.{starts_once}
use Rattle.ick_inspect.proofs.laws.one_start.Goals as goal

pub returns : goal.returns
returns c = λ source program cut.
    let found = cut_placed source program cut in
    (found.0, found.1, λ others are. starts_once are found.1)
