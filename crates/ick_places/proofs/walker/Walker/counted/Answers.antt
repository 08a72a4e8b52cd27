use Rattle.std.proofs.Common.{[], ◌∷◌}
use Rattle.ick_places.specs.declared.mark.Part.TheVariants.{Action}
use Rattle.ick_places.specs.Marks.{mark}
use Rattle.ick_places.proofs.WalkLemmas.{walks_marks}
use Rattle.ick_places.proofs.walker.Walker.counted.Goals as goal

pub returns : goal.returns
returns c = walks_marks _ _ _ _ _ (λ text from to. mark text Action from to ∷ []) c.args.from c.whole.ensures c.mark.ensures
