use Rattle.std.proofs.Common.{refl}
use Rattle.ick_places.proofs.TokenWalks.{signs}
use Rattle.ick_places.proofs.walker.Walker.sign.Goals as goal

pub returns : goal.returns
returns c = record { walks = signs _ _ refl (λ f. f) (λ f. refl) c.lead_at.ensures.to; goes = c.lead_at.ensures.to }
