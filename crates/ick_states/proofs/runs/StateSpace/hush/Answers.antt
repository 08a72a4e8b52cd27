use Rattle.ick_states.proofs.Hushing.{kept_quiet}
use Rattle.ick_states.proofs.runs.StateSpace.hush.Goals as goal

pub returns-then-self-clause-kept : goal.returns-then-self-clause-kept
returns-then-self-clause-kept c =
    let lowered = c.args.self.now.lowered in
    kept_quiet lowered.code.now lowered.parts c.args.saved.now c.clear.new.self c.clear.ensures.items c.requires
