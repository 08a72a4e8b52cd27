-- Where a run over a feed needs input.
use Rattle.std.specs.Prelude.{◌≡◌, Some}
use Rattle.ick_syntax.specs.declared.kinds.Kind.TheVariants.{WriteIn}
use Rattle.ick_code.specs.meaning.State.{State}
use Rattle.ick_code.specs.Laws.{kind_at}
use Rattle.ick_backtrack.specs.Machine.{Program}

-- a WRITE IN is the next statement
abbrev pub MeetsInput : Program → State → Type 0
MeetsInput program s = kind_at program s ≡ Some WriteIn
