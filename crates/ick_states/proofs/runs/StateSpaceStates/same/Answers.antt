use Rattle.std.proofs.Common.{ap, subst, sym, ◌∙◌}
use Rattle.ick_code.specs.meaning.State.{State}
use Rattle.ick_states.specs.Seen.{CanGoOnFrom, seen_of}
use Rattle.ick_states.specs.declared.runs.KeptRun.{KeptRun}
use Rattle.ick_states.proofs.runs.StateSpaceStates.same.Goals as goal

pub returns-clause-found : goal.returns-clause-found
returns-clause-found c = λ mine theirs same.
    let runs = c.args.self.now in
    c.same_runs.ensures.found
    (subst (λ (run : KeptRun). CanGoOnFrom runs.lowered run.saved) (sym c.deref.ensures) mine)
    (subst (λ (run : KeptRun). CanGoOnFrom runs.lowered run.saved) (sym c.deref-2.ensures) theirs)
    (ap {B = State} (λ (run : KeptRun). (seen_of runs run).state) c.deref.ensures
    ∙ (same ∙ ap {B = State} (λ (run : KeptRun). (seen_of runs run).state) (sym c.deref-2.ensures)))
