use Rattle.std.specs.Prelude.{codes}
use Rattle.ick_inspect.proofs.AddLaws.{same}
use Rattle.ick_stages.proofs.TextLaws.{joined_mapped}
use Rattle.ick_stages.specs.Trees.{tree_text}
use Rattle.ick_syntax.specs.Tree.{tree_of}
use Rattle.ick_stages.proofs.body.append_dimensions.Goals as goal

pub returns : goal.returns
returns c = same (joined_mapped (codes " BY ") tree_text tree_of c.args.dimensions.now) c.append_joined.ensures
