-- What contracts see of a session.
use Rattle.ick_step.specs.declared.history.History.{History}
use Rattle.ick_step.specs.Seen.{Seen, seen_at}

abbrev pub history : {M : _} {G : _} → History M G → Seen
history {M} {G} s = seen_at (G.seen s.machine) s.answers.items
