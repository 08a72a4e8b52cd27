use Rattle.ick_explorer.proofs.Existence.{listing_exists}
use Rattle.ick_explorer.proofs.ListingLaws.{listing_unique}
use Rattle.ick_explorer.proofs.laws.one_listing.Goals as goal

pub returns : goal.returns
returns c = λ p s limit from. record { some = listing_exists p s limit from; unique = listing_unique p s limit from }
