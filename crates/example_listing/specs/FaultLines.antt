-- The lines of the runs that end by a fault.
use Rattle.std.specs.Prelude.{ℕ, Bool, List, []}
use Rattle.std.specs.List.{flat_map}
use Rattle.ick_code.specs.meaning.State.{State, gave_up, faulted}
use Rattle.ick_backtrack.specs.Machine.{Program}
use Rattle.ick_backtrack.specs.Asked.{Finish, finished, at_limit}
use Rattle.ick_explorer.specs.Lines.{line_of}
use Rattle.ick_explorer.specs.Runs.{Stop, ends, wants, run}

-- the greatest number of steps of a run
abbrev pub most_steps : ℕ
most_steps = 10000

-- the line of a run that ends by a fault; a run that ends otherwise has no line
abbrev pub fault_line : List Bool → Finish → List ℕ → List ℕ
fault_line c (finished (faulted kind statement subject)) output =
    line_of c (finished (faulted kind statement subject)) output
fault_line c (finished gave_up) output = []
fault_line c at_limit output = []

-- a run that only wants a choice has no line
abbrev pub fault_line_at : List Bool → Stop → List ℕ → List ℕ
fault_line_at c (ends finish) output = fault_line c finish output
fault_line_at c wants output = []

-- the line of the run with these choices
abbrev pub fault_line_of : Program → State → ℕ → List Bool → List ℕ
fault_line_of p s l c = fault_line_at c (run p s l c).stop (run p s l c).last.output

-- the lines of these runs
abbrev pub fault_lines : Program → State → ℕ → List (List Bool) → List ℕ
fault_lines p s l cs = flat_map (fault_line_of p s l) cs
