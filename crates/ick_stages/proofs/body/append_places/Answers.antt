use Rattle.std.proofs.Common.{ap, ◌++◌}
use Rattle.std.specs.Prelude.{codes}
use Rattle.ick_inspect.proofs.AddLaws.{same}
use Rattle.ick_stages.proofs.TextLaws.{joined_mapped}
use Rattle.ick_stages.specs.Bodies.{item_text}
use Rattle.ick_syntax.specs.BodyTree.{place_tree}
use Rattle.ick_stages.proofs.body.append_places.Goals as goal

pub returns : goal.returns
returns c = same (ap (λ l. codes "WRITE IN " ++ l) (joined_mapped (codes " + ") item_text place_tree c.args.places.now)) c.append_list.ensures
