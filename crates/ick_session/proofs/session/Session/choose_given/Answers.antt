use Rattle.ick_code.proofs.AskLaws.{chance_between}
use Rattle.ick_session.proofs.session.Session.choose_given.Goals as goal

pub choice-requires-clause-low : goal.choice-requires-clause-low
choice-requires-clause-low c = (chance_between _ _ c.args.chance c.requires).0

pub choice-requires-clause-high : goal.choice-requires-clause-high
choice-requires-clause-high c = (chance_between _ _ c.args.chance c.requires).1
