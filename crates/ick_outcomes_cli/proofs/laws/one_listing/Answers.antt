use Rattle.ick_outcomes_cli.proofs.OneText.{same_text}
use Rattle.ick_outcomes_cli.proofs.laws.one_listing.Goals as goal

pub returns : goal.returns
returns c = same_text
