use Rattle.std.proofs.Common.{refl}
use Rattle.ick_places.proofs.TokenWalks.{numbered, not_numbered}
use Rattle.ick_places.proofs.walker.Walker.number.Goals as goal

pub returns-in-Some : goal.returns-in-Some
returns-in-Some c = numbered _ _ _ refl (λ f. f) (λ f. refl) c.in-Some.ensures.is

pub returns-in_default : goal.returns-in_default
returns-in_default c = not_numbered _ c.in_default.ensures
