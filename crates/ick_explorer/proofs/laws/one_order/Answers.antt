use Rattle.ick_explorer.proofs.RunLaws.{compared}
use Rattle.ick_explorer.proofs.ListingLaws.{not_below_itself, below-below}
use Rattle.ick_explorer.proofs.laws.one_order.Goals as goal

pub returns : goal.returns
returns c = record {
  order = record { strict = not_below_itself; transitive = below-below };
  whole = compared;
}
