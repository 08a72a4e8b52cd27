-- Proves why the states of a program were not searched to the end.
use Rattle.std.proofs.Common.{◌≡◌, ℕ, Box, List, Result, Ok, Err, Global, ap, refl, subst}
use Rattle.std.specs.Prelude.{IfErr}
use Rattle.ick_code.specs.Compiled.{code_program}
use Rattle.ick_code.specs.declared.code.Code.{Code}
use Rattle.ick_code.specs.meaning.Move.{first_state}
use Rattle.ick_backtrack.specs.Machine.{Program}
use Rattle.ick_outcomes.specs.Accounts.{Configuration}
use Rattle.ick_chain.specs.Reached.{HasMoreStates}
use Rattle.ick_chain.specs.Kept.{KeepsMore}
use Rattle.ick_chain.specs.declared.errors.ChainError.{ChainError}
use Rattle.ick_chain.specs.declared.errors.ChainError.TheVariants.{NoMemory, NotSolved, TooManyStates, TooMuchKept}
use Rattle.ick_states.specs.Seen.{CanGoOnFrom, seen_of}
use Rattle.ick_states.specs.Sizes.{saved_bytes}
use Rattle.ick_states.specs.declared.runs.KeptRun.{KeptRun}
use Rattle.ick_states.specs.declared.runs.StateSpace.{StateSpace}
use Rattle.ick_outcomes_cli.specs.Job.{asked_of, memory_of}
use Rattle.ick_outcomes_cli.specs.Unfinished.{IsReason, TakesTooMuch}
use Rattle.ick_outcomes_cli.specs.declared.words.job.Question.{Question}

-- the reason of a refusal, by what is known of each
pub reason_of : {T : Type 0} (p : Program) (input : List ℕ) (q : Question) (r : Result T ChainError)
    → ((steps : ℕ) → r ≡ Err (TooManyStates steps)
    → HasMoreStates (asked_of p q) (first_state p input) q.most steps)
    → (r ≡ Err TooMuchKept → TakesTooMuch p input q) → IfErr r (IsReason p input q)
reason_of p input q (Ok x) many much = tt
reason_of p input q (Err NoMemory) many much = tt
reason_of p input q (Err (TooManyStates steps)) many much = many steps refl
reason_of p input q (Err TooMuchKept) many much = much refl
reason_of p input q (Err NotSolved) many much = tt

-- the states that a search keeps take more bytes than they may
pub takes_too_much : (code : Code) (input : List ℕ) (q : Question) (given : ℕ) (runs : StateSpace) (x : Configuration)
    → runs.lowered.code.now ≡ code → runs.input.now ≡ input → runs.silent ≡ q.ends
    → x ≡ record { program = asked_of (code_program code) q; state = first_state (code_program code) input }
    → given ≡ memory_of q
    → KeepsMore x.program (λ (b : Box KeptRun Global). seen_of runs b.value)
    (λ b. CanGoOnFrom runs.lowered b.value.saved) (λ b. saved_bytes b.value.saved) x.state given
    → TakesTooMuch (code_program code) input q
takes_too_much code input q given runs x of_code of_input of_question at same h = record {
  runs = runs;
  of_program = ap code_program of_code;
  of_input = of_input;
  of_question = of_question;
  takes = subst (λ (n : ℕ). KeepsMore (asked_of (code_program code) q) (λ (b : Box KeptRun Global). seen_of runs b.value)
      (λ b. CanGoOnFrom runs.lowered b.value.saved) (λ b. saved_bytes b.value.saved)
      (first_state (code_program code) input) n) same
      (subst (λ (y : Configuration). KeepsMore y.program (λ (b : Box KeptRun Global). seen_of runs b.value)
      (λ b. CanGoOnFrom runs.lowered b.value.saved) (λ b. saved_bytes b.value.saved) y.state given) at h);
}
