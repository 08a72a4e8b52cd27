use Rattle.std.proofs.Common.{◌≡◌, None, refl, arith}
use Rattle.ick_code.specs.meaning.Move.{advance}
use Rattle.ick_machine.specs.RunIn.{program_of, state_in}
use Rattle.ick_machine.proofs.WholeLemmas.{by_text, if_ok}
use Rattle.ick_states.proofs.Keeping.{same_steps}
use Rattle.ick_states.proofs.runs.StateSpace.step_in.Goals as goal

pub returns-clause-runs : goal.returns-clause-runs
returns-clause-runs c =
    let runs = c.args.self.now in
    let call = c.make_steps in
    let program = program_of runs.lowered in
    let step = by_text c.new.result call.new.reader runs.input.now (λ before after.
    state_in runs.lowered after call.new.memory call.new.end
    ≡ advance program (state_in runs.lowered before c.args.memory.now None) c.args.done) c.new.ensures
    call.ensures.held_same (rw c.requires.going at
    (c.in_ok-make_steps.ensures.steps c.args.done refl refl c.requires.going refl (omega arith))) in
    if_ok c.go_on.result _ _ c.go_on.ensures.runs (λ made then. same_steps program _ _ _ _ made step refl then)
