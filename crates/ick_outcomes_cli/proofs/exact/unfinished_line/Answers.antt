use Rattle.std.proofs.Common.{subst, sym}
use Rattle.std.proofs.lemmas.Result.{IfOk-weaker}
use Rattle.ick_outcomes_cli.specs.Unfinished.{IsUnfinished, has_more, takes_more, unsolved}
use Rattle.ick_outcomes_cli.proofs.exact.unfinished_line.Goals as goal

pub returns-in-TooManyStates : goal.returns-in-TooManyStates
returns-in-TooManyStates c =
    IfOk-weaker c.many_states_line.result _ _
    (λ text is p input reason. subst (IsUnfinished p input c.args.question) (sym is)
    (has_more c.in-TooManyStates.steps (rw c.in-TooManyStates.is at reason))) c.many_states_line.ensures

pub returns-in-NotSolved : goal.returns-in-NotSolved
returns-in-NotSolved c =
    IfOk-weaker c.not_solved_line.result _ _
    (λ text is p input reason. subst (IsUnfinished p input c.args.question) (sym is) unsolved) c.not_solved_line.ensures

pub returns-in-TooMuchKept : goal.returns-in-TooMuchKept
returns-in-TooMuchKept c =
    IfOk-weaker c.much_kept_line.result _ _
    (λ text is p input reason. subst (IsUnfinished p input c.args.question)
    (sym is) (takes_more (rw c.in-TooMuchKept.is at reason)))
    c.much_kept_line.ensures
