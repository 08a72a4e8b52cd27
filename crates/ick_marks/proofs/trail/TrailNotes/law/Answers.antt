use Rattle.ick_marks.proofs.Names.{alike_rewinds}
use Rattle.ick_marks.proofs.trail.TrailNotes.law.Goals as goal

pub returns-clause-alike : goal.returns-clause-alike
returns-clause-alike c = λ k v w m like h. (h.0, alike_rewinds like h.1)
