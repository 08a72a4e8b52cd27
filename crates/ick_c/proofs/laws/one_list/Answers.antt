use Rattle.ick_c.proofs.ArgumentLemmas.{same_held}
use Rattle.ick_c.proofs.laws.one_list.Goals as goal

pub returns : goal.returns
returns c = same_held
