-- The names of the machines that can be measured.
use Rattle.std.specs.Prelude.{ℕ, List, codes}
use Rattle.test_runs.specs.declared.machine.Machine.{Machine}
use Rattle.test_runs.specs.declared.machine.Machine.TheVariants.{Copied, Trailed, Live}

-- the name of a machine
abbrev pub name_of : Machine → List ℕ
name_of Copied = codes "copied"
name_of Trailed = codes "trailed"
name_of Live = codes "live"
