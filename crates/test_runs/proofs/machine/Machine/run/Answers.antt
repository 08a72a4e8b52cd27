use Rattle.std.proofs.Common.{[], subst}
use Rattle.ick_code.specs.Compiled.{code_program}
use Rattle.ick_code.specs.meaning.Move.{first_state}
use Rattle.ick_backtrack.specs.Machine.{Machine}
use Rattle.ick_explorer.specs.Runs.{Execution, run}
use Rattle.ick_runs.specs.Ordinary.{IsRan}
use Rattle.test_runs.proofs.machine.Machine.run.Goals as goal

pub returns-in-Copied : goal.returns-in-Copied
returns-in-Copied c =
    let program = code_program c.args.code.now in
    let made : Machine → Execution = λ m. run m.program m.state c.args.limit [] in
    c.steps_of.ensures [] (run program (first_state program []) c.args.limit [])
    (subst (λ m. IsRan [] (made m) c.in_ok-run_from-in-Copied.field-0) c.in_ok-machine-in-Copied.ensures
    c.in_ok-run_from-in-Copied.ensures.run)

pub returns-in-Trailed : goal.returns-in-Trailed
returns-in-Trailed c =
    let program = code_program c.args.code.now in
    let made : Machine → Execution = λ m. run m.program m.state c.args.limit [] in
    c.steps_of-in-Trailed.ensures [] (run program (first_state program []) c.args.limit [])
    (subst (λ m. IsRan [] (made m) c.in_ok-run_from-in-Trailed.field-0) c.in_ok-machine-in-Trailed.ensures
    c.in_ok-run_from-in-Trailed.ensures.run)
