-- The choices that a run is given.
use Rattle.std.specs.Prelude.{[], unwrap_or}
use Rattle.ick_runs.specs.Chosen.{Chosen, listed, seeded}
use Rattle.ick_session.specs.declared.given.Given.{Given}
use Rattle.ick_session.specs.declared.given.Given.TheVariants.{Listed, Drawn}

-- what gives these choices
abbrev pub given_by : Given → Chosen
given_by (Listed cursor) = listed (unwrap_or cursor [])
given_by (Drawn words) = seeded words.seed
