use Rattle.std.proofs.Common.{ap, ◌++◌}
use Rattle.std.specs.Prelude.{codes}
use Rattle.ick_inspect.proofs.AddLaws.{same}
use Rattle.ick_stages.proofs.TextLaws.{joined_mapped}
use Rattle.ick_stages.specs.Bodies.{item_text}
use Rattle.ick_syntax.specs.BodyTree.{item_tree}
use Rattle.ick_stages.proofs.body.append_items.Goals as goal

pub returns : goal.returns
returns c = same (ap (λ l. codes "READ OUT " ++ l) (joined_mapped (codes " + ") item_text item_tree c.args.items.now)) c.append_list.ensures
