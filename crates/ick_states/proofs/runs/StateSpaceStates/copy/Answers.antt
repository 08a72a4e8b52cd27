use Rattle.std.proofs.Common.{ap, subst, sym, ◌∙◌}
use Rattle.ick_runtime.specs.Inputs.{input_of}
use Rattle.ick_states.specs.Seen.{CanGoOnFrom, seen_of}
use Rattle.ick_states.specs.declared.runs.KeptRun.{KeptRun}
use Rattle.ick_states.proofs.Keeping.{place_same}
use Rattle.ick_states.proofs.runs.StateSpaceStates.copy.Goals as goal

pub returns-clause-seen : goal.returns-clause-seen
returns-clause-seen c =
    let runs = c.args.self.now in
    let copy : KeptRun = record { saved = c.in_ok-copy.field-0; end = c.deref-2.result.now.end } in
    ap (seen_of runs) c.in_ok-new.ensures.ok
    ∙ place_same runs copy c.deref.result.now
    (c.in_ok-copy.ensures.states runs.lowered.code.now runs.lowered.parts (input_of runs.input.now))
    (ap (λ (run : KeptRun). run.end) (c.deref-2.ensures ∙ sym c.deref.ensures))
    ∙ ap (seen_of runs) c.deref.ensures

pub returns-clause-state : goal.returns-clause-state
returns-clause-state c =
    let lowered = c.args.self.now.lowered in
    subst (λ (run : KeptRun). CanGoOnFrom lowered run.saved) (sym c.in_ok-new.ensures.ok)
    (c.in_ok-copy.ensures.kept lowered.code.now lowered.parts
    (subst (λ (run : KeptRun). CanGoOnFrom lowered run.saved) (sym c.deref.ensures) c.requires))
