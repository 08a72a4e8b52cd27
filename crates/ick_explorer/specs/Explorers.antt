-- Defines the view of an explorer in contracts.
use Rattle.ick_explorer.specs.declared.explorer.Explorer.{Explorer}
use Rattle.ick_explorer.specs.Standing.{Explored, explored_at}

abbrev pub explored : {M : _} {G : _} → Explorer M G → Explored
explored {M} {G} e = explored_at (G.seen e.machine) e.limit e.path e.progress
