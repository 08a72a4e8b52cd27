use Rattle.std.proofs.Common.{refl}
use Rattle.ick_source.specs.BodyGrammar.{abstained_by, reinstated_by}
use Rattle.ick_syntax.specs.BodyTree.{abstain_label, abstain_kinds, reinstate_label, reinstate_kinds}
use Rattle.ick_places.proofs.BodyWalks.{walks_labelled, walks_gerunds}
use Rattle.ick_places.proofs.walker.Walker.switch.Goals as goal

pub returns-then-sees : goal.returns-then-sees
returns-then-sees c = record {
  abstains =
      walks_labelled abstain_label abstained_by _ _ _ c.args.from _ refl c.if-sees.true c.sees.ensures c.label.ensures
      c.mark.ensures;
  reinstates =
      walks_labelled reinstate_label reinstated_by _ _ _ c.args.from _ refl c.if-sees.true c.sees.ensures c.label.ensures
      c.mark.ensures;
}

pub returns : goal.returns
returns c = record {
  abstains =
      walks_gerunds abstain_kinds abstained_by _ _ c.args.from _ refl c.if-sees.false c.sees.ensures c.list.ensures;
  reinstates =
      walks_gerunds reinstate_kinds reinstated_by _ _ c.args.from _ refl c.if-sees.false c.sees.ensures c.list.ensures;
}
