-- What a machine asks, by the status of the statement that is met.
use Rattle.std.proofs.Common.{◌≡◌, ◌≢◌, ℕ, ◌+◌, ◌-◌, ◌<◌, ◌≤◌, List, length, get_or, Option}
use Rattle.std.proofs.Common.{Some, None}
use Rattle.std.proofs.Common.{refl, ap, arith, rules}
use Rattle.std.specs.Prelude.{option_map, if◌then◌else◌}
use Rattle.std.proofs.{lemmas.Bool.cases_lt, lemmas.Option.slice_get_past}
use Rattle.ick_syntax.specs.StatementTree.{StatementTree}
use Rattle.ick_code.specs.{declared.code.Code.Code, Compiled.code_program, meaning.State.{State, Ending, statement_at}}
use Rattle.ick_code.specs.meaning.Move.{plain, choice, ask, ask_of, ask_at, is_uncertain}
use Rattle.ick_instructions.specs.declared.lowered.LoweredParts.{LoweredParts}
use Rattle.ick_engine.specs.{declared.exit.RawEnd.RawEnd, Exits.end_of}
use Rattle.ick_runtime.{proofs.{Statuses.some_and, Turns.no_input}, specs.{View.View, Inputs.Input, Status.percent_of}}
use Rattle.ick_runtime.specs.{Status.{lack_of, is_abstained}, Steady.IsReady}
use Rattle.ick_backtrack.specs.{Asked.{Finish, finished, asked_at_end}, Machine.Program, Steps.IsPlain}
use Rattle.ick_machine.specs.{Asked.{asked_by}, Run.{ending_of, run_state}}

-- a statement asks what its status says
asked_there : (statement : StatementTree) (status : ℕ) → lack_of status ≡ 100 - percent_of statement.chance →
    (if is_uncertain statement (is_abstained status) then choice statement.chance else plain) ≡ asked_by status
asked_there statement status is = search rules

past_none : (program : List StatementTree) → statement_at program (length program + 1) ≡ None
past_none program = search (rules, slice_get_past)

-- an ended run isn't plain
pub ended_bound : (program : Program) (s : State) (end : Ending) → s.end ≡ Some end → ¬ IsPlain program s
unfolding ask
ended_bound program s end is free = absurd (cc (ap (λ e. ask_of e program s) is, free))

pub some_bound : (code : Code) (lowered : LoweredParts) (input : Input) (v : View) (end : Option RawEnd) →
    end ≢ None → ¬ IsPlain (code_program code) (run_state code lowered input v end)
some_bound code lowered input v None is = absurd (is refl)
some_bound code lowered input v (Some e) is =
    ended_bound (code_program code) (run_state code lowered input v (Some e)) (end_of (code_program code) input e) refl

module _ (code : Code) (lowered : LoweredParts) (v : View) (ready : IsReady code lowered v) where
  pub place_is : (1 ≤ v.place) × (v.place ≤ length (code_program code) + 1)
  place_is = (ready.stands no_input).within.place_is

  pub place_low : v.place < length v.statuses
  place_low = omega (arith, place_is, ready.steady.statuses.count)

  module _ (input : Input) where
    -- an end is answered as it is
    pub asks_end : (e : RawEnd) (finish : Finish) → Some finish ≡ option_map finished (ending_of code input (Some e)) →
        asked_at_end finish ≡ Some (ask (code_program code) (run_state code lowered input v (Some e)))
    unfolding ask
    asks_end e finish same = search rules

    -- what is asked, by the statement that is met
    asks_at : (o : Option StatementTree) → statement_at (code_program code) v.place ≡ o →
        ask (code_program code) (run_state code lowered input v None)
        ≡ ask_at o (run_state code lowered input v None)
    unfolding ask
    asks_at o is = ap (λ o. ask_at o (run_state code lowered input v None)) is

    -- by its status
    pub asks_by : ask (code_program code) (run_state code lowered input v None) ≡ asked_by (get_or v.statuses v.place 0)
    unfolding ask
    asks_by = search (rules, asks_at, asked_there, cases_lt, past_none, some_and)

    pub asks_status : (status : ℕ) (end : Option RawEnd) → end ≡ None → status ≡ get_or v.statuses v.place 0 →
        asked_by status ≡ ask (code_program code) (run_state code lowered input v end)
    asks_status status end none is = search (rules, asks_by)
