use Rattle.ick_step_cli.proofs.OneSession.{same_session}
use Rattle.ick_step_cli.proofs.laws.one_session.Goals as goal

pub returns : goal.returns
returns c = same_session c.one_refusal.ensures
