use Rattle.std.proofs.Common.{rules}
use Rattle.ick_places.specs.Marks.{mark}
use Rattle.ick_places.proofs.walker.Walker.mark.Goals as goal

pub returns : goal.returns
unfolding mark
returns c = search rules
