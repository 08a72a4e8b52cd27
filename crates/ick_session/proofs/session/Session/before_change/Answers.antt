use Rattle.ick_session.proofs.session.Session.before_change.Goals as goal

pub returns-clause-short : goal.returns-clause-short
returns-clause-short c = c.go_before_change-gone.ensures.short
