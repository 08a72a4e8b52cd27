use Rattle.ick_stages.proofs.StartLaws.{seen_texts, starts_of_cut}
use Rattle.ick_stages.proofs.laws.starts_of_cut.Goals as goal

pub returns-clause-cut : goal.returns-clause-cut
returns-clause-cut c = starts_of_cut

pub returns-clause-seen : goal.returns-clause-seen
returns-clause-seen c = seen_texts
