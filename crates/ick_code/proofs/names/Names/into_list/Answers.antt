use Rattle.ick_code.proofs.SlotLemmas.{few_names}
use Rattle.ick_code.proofs.names.Names.into_list.Goals as goal

pub returns-clause-few : goal.returns-clause-few
returns-clause-few c = few_names _ c.args.self.once c.args.self.short
