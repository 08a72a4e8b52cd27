-- Marks that are copies of states.
use Rattle.std.specs.Prelude.{List}
use Rattle.std.specs.List.{All}
use Rattle.ick_code.specs.declared.code.Code.{Code}
use Rattle.ick_code.specs.meaning.State.{State}
use Rattle.ick_instructions.specs.declared.lowered.LoweredParts.{LoweredParts}
use Rattle.ick_marks.specs.Saved.{IsKept, saved_view}
use Rattle.ick_runtime.specs.Inputs.{Input}
use Rattle.ick_machine.specs.declared.copied.Copy.{Copy}
use Rattle.ick_machine.specs.Run.{run_state}

-- the state that a copy has
abbrev pub copied_state : Code → LoweredParts → Input → Copy → State
copied_state code lowered input copy = run_state code lowered input (saved_view copy.saved) copy.end

-- a run can go on from each of them
abbrev pub AreCopies : Code → LoweredParts → List Copy → Type 0
AreCopies code lowered copies = All (λ copy. IsKept code lowered copy.saved) copies
