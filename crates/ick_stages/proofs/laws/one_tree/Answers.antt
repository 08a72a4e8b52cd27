use Rattle.ick_stages.proofs.TreeLaws.{one_tree}
use Rattle.ick_stages.proofs.laws.one_tree.Goals as goal

pub returns : goal.returns
returns c = one_tree
