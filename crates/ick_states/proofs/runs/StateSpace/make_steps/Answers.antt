use Rattle.std.proofs.Common.{None, ap, sym, ◌∙◌}
use Rattle.ick_code.specs.Compiled.{code_program}
use Rattle.ick_code.specs.meaning.Move.{advance}
use Rattle.ick_runtime.specs.Memory.{view_in}
use Rattle.ick_marks.specs.Saved.{saved_view}
use Rattle.ick_runtime.specs.Inputs.{input_of}
use Rattle.ick_machine.specs.Run.{run_state}
use Rattle.ick_states.proofs.Keeping.{run_same, same_steps}
use Rattle.ick_machine.proofs.WholeLemmas.{goes_on}
use Rattle.ick_states.proofs.runs.StateSpace.make_steps.Goals as goal

pub returns-clause-kept : goal.returns-clause-kept
returns-clause-kept c =
    ∣ (view_in c.step_in.new.memory, c.in_ok-made.ensures.ready, c.in_ok-renew.ensures.saved) ∣₁

pub returns-clause-runs : goal.returns-clause-runs
returns-clause-runs c =
    let code = c.args.self.now.lowered.code.now in
    let parts = c.args.self.now.lowered.parts in
    let program = code_program code in
    let input = input_of c.args.self.now.input.now in
    let old = c.args.state.now in
    let view = saved_view old.saved in
    let none = goes_on code parts input view old.end c.requires.going in
    let before = run_same code parts input (view_in c.exchange.new.memory) view None
    (c.exchange.ensures.loaded.states input) ∙ ap (run_state code parts input view) (sym none) in
    let after = run_same code parts input (saved_view c.renew.new.saved) (view_in c.step_in.new.memory)
    c.step_in.new.end (c.law.ensures (view_in c.step_in.new.memory) c.in_ok-renew.ensures.saved input) in
    same_steps program _ _ _ _ c.in_ok-made.made (ap (λ s. advance program s c.args.done) before) after
    c.in_ok-made.ensures.runs
