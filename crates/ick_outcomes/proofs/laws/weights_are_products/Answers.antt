use Rattle.ick_outcomes.proofs.Products.{share-is}
use Rattle.ick_outcomes.proofs.laws.weights_are_products.Goals as goal

pub returns : goal.returns
returns c = λ p s limit c w. share-is p s limit c w
