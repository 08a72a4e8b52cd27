use Rattle.ick_places.proofs.ExpressionWalks.{closes}
use Rattle.ick_places.proofs.walker.Walker.close.Goals as goal

pub returns : goal.returns
returns c = closes c.args.delimiter _ _ c.sign.ensures.walks
