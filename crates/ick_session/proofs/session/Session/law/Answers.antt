use Rattle.ick_session.proofs.CountLaws.{equal_of}
use Rattle.ick_session.proofs.session.Session.law.Goals as goal

pub returns : goal.returns
returns c = equal_of _ _ c.args.self.now.kept
