-- The lines that say why the outcomes without a limit, or the states, are not listed.
use Rattle.std.specs.Prelude.{◌≡◌, ℕ, Box, List, ◌++◌, codes, decimal, if◌then◌else◌}
use Rattle.std.specs.declared.alloc.Global.{Global}
use Rattle.ick_code.specs.Compiled.{code_program}
use Rattle.ick_code.specs.meaning.Move.{first_state}
use Rattle.ick_backtrack.specs.Machine.{Program}
use Rattle.ick_chain.specs.Reached.{HasMoreStates}
use Rattle.ick_chain.specs.Kept.{KeepsMore}
use Rattle.ick_chain.specs.declared.errors.ChainError.{ChainError}
use Rattle.ick_chain.specs.declared.errors.ChainError.TheVariants.{NoMemory, NotSolved, TooManyStates, TooMuchKept}
use Rattle.ick_states.specs.Seen.{CanGoOnFrom, seen_of}
use Rattle.ick_states.specs.Sizes.{saved_bytes}
use Rattle.ick_states.specs.declared.runs.KeptRun.{KeptRun}
use Rattle.ick_states.specs.declared.runs.StateSpace.{StateSpace}
use Rattle.ick_outcomes_cli.specs.Job.{asked_of, memory_of}
use Rattle.ick_outcomes_cli.specs.declared.words.job.Question.{Question}

-- what else can be tried: the usual limit, and outcomes by their ends if they are not asked for; of states nothing
abbrev pub try_text : Question → List ℕ
try_text q =
    if q.states then codes "\n"
    else if q.ends then codes "; TRY --limit 10000\n"
    else codes "; TRY --limit 10000 OR --ends\n"

-- more states would have to be kept than may be; so many steps found them
abbrev pub many_states_text : Question → (steps : ℕ) → List ℕ
many_states_text q steps =
    codes "TOO MANY STATES: " ++ decimal q.most ++ codes " IN " ++ decimal steps ++ codes " STEPS" ++ try_text q

-- the states, and what is kept for them, take more bytes than they may
abbrev pub much_kept_text : Question → List ℕ
much_kept_text q = codes "TOO MUCH MEMORY: " ++ decimal (memory_of q) ++ codes " BYTES" ++ try_text q

-- no weights were found for the states
abbrev pub not_solved_text : Question → List ℕ
not_solved_text q = codes "NOT SOLVED" ++ try_text q

pub data IsUnfinishedText : List ℕ → Type 0 where
  many_states : (q : Question) (steps : ℕ) → IsUnfinishedText (many_states_text q steps)
  much_kept : (q : Question) → IsUnfinishedText (much_kept_text q)
  not_solved : (q : Question) → IsUnfinishedText (not_solved_text q)

-- states of a program over an input, as they are kept, take more bytes than they may
pub record TakesTooMuch (program : Program) (input : List ℕ) (q : Question) : Type 0 where
  pub runs : StateSpace
  pub of_program : code_program runs.lowered.code.now ≡ program
  pub of_input : runs.input.now ≡ input
  pub of_question : runs.silent ≡ q.ends
  pub takes : KeepsMore (asked_of program q) (λ (b : Box KeptRun Global). seen_of runs b.value)
      (λ b. CanGoOnFrom runs.lowered b.value.saved) (λ b. saved_bytes b.value.saved)
      (first_state program input) (memory_of q)

-- why the states of a program over an input were not searched to the end
abbrev pub IsReason : Program → List ℕ → Question → ChainError → Type 0
IsReason program input q NoMemory = Unit {0}
IsReason program input q (TooManyStates steps) =
    HasMoreStates (asked_of program q) (first_state program input) q.most steps
IsReason program input q TooMuchKept = TakesTooMuch program input q
IsReason program input q NotSolved = Unit {0}

-- The states of a program over an input were not searched to the end, and the line says why. More states can be
-- reached than may be kept, or they take more bytes, or no weights were found for them.
pub data IsUnfinished (program : Program) (input : List ℕ) (q : Question) : List ℕ → Type 0 where
  has_more : (steps : ℕ) → HasMoreStates (asked_of program q) (first_state program input) q.most steps
      → IsUnfinished program input q (many_states_text q steps)
  takes_more : TakesTooMuch program input q → IsUnfinished program input q (much_kept_text q)
  unsolved : IsUnfinished program input q (not_solved_text q)
