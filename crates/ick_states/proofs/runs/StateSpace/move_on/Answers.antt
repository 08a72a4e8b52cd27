use Rattle.ick_runtime.specs.Inputs.{input_of}
use Rattle.ick_states.specs.Seen.{kept_state, seen_of, text_of}
use Rattle.ick_states.proofs.Hushing.{going_is, moved}
use Rattle.ick_states.proofs.runs.StateSpace.move_on.Goals as goal

pub make_steps-requires-clause-going : goal.make_steps-requires-clause-going
make_steps-requires-clause-going c =
    let runs = c.args.self.now in going_is (text_of runs) (seen_of runs c.args.state.now).state c.requires.going

pub returns-clause-runs : goal.returns-clause-runs
returns-clause-runs c =
    let runs = c.args.self.now in
    let input = input_of runs.input.now in
    let after = c.make_steps.new.state in
    moved (text_of runs) (seen_of runs c.args.state.now).state (kept_state runs.lowered input after.saved after.end)
    (kept_state runs.lowered input c.hush.new.saved after.end) c.args.done c.in_ok-made.made c.in_ok-made.ensures.runs
    (c.hush.ensures.states input after.end)
