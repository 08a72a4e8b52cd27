use Rattle.std.proofs.Common.{◌≡◌, Some, None, ap, subst, sym, ◌∙◌, arith}
use Rattle.std.proofs.lemmas.Grind.{get_or_default_zero}
use Rattle.ick_backtrack.specs.Asked.{asked_of, finish_of}
use Rattle.ick_marks.specs.Saved.{saved_view}
use Rattle.ick_runtime.specs.Inputs.{input_of}
use Rattle.ick_code.specs.meaning.Move.{ask}
use Rattle.ick_machine.specs.RunIn.{program_of}
use Rattle.ick_states.specs.Seen.{CanGoOnFrom, kept_state, seen_of, text_of}
use Rattle.ick_states.proofs.Hushing.{asked_is}
use Rattle.ick_states.proofs.Keeping.{asked_there, asks_end, asks_on, status_there}
use Rattle.ick_states.specs.declared.runs.KeptRun.{KeptRun}
use Rattle.ick_states.proofs.runs.StateSpaceStates.asks.Goals as goal
use Rattle.ick_states.proofs.runs.StateSpaceStates.asks.Goals.{After-deref-2}

pub returns-in-Some : goal.returns-in-Some
returns-in-Some c =
    let kept = c.args.state.now.value in
    asked_is (text_of c.args.self.now) (seen_of c.args.self.now kept).state _
    (asks_end c.args.self.now.lowered.code.now c.args.self.now.lowered.parts (input_of c.args.self.now.input.now)
    (saved_view kept.saved) kept.end c.in-Some.ended (finish_of c.end_of.result)
    (ap (λ (run : KeptRun). run.end) (sym c.deref.ensures) ∙ c.in-Some.is)
    c.end_of.ensures)

-- the state is kept
kept : (c : After-deref-2) → CanGoOnFrom c.args.self.now.lowered c.deref-2.result.now.saved
kept c = subst (λ (run : KeptRun). CanGoOnFrom c.args.self.now.lowered run.saved) (sym c.deref-2.ensures) c.requires

pub index-requires : goal.index-requires
index-requires c =
    let lowered = c.args.self.now.lowered in
    let low = status_there lowered.code.now lowered.parts c.deref-2.result.now.saved
    (kept (goal.at.index-requires c).After-deref-2) in
    omega (arith, low)

pub returns : goal.returns
returns c =
    let lowered = c.args.self.now.lowered in
    let input = input_of c.args.self.now.input.now in
    let saved = c.deref-2.result.now.saved in
    let run = c.args.state.now.value in
    let is_kept = kept (goal.at.returns c).After-deref-2 in
    let status = c.index.result.now in
    let low = status_there lowered.code.now lowered.parts saved is_kept in
    asked_is (text_of c.args.self.now) (seen_of c.args.self.now run).state _
    (asks_on lowered.code.now lowered.parts input (saved_view run.saved) run.end (asked_of c.asked_at.result)
    (ap (λ (run : KeptRun). run.end) (sym c.deref.ensures) ∙ c.in_default.is)
    (subst (λ (run : KeptRun). asked_of c.asked_at.result
    ≡ Some (ask (program_of lowered) (kept_state lowered input run.saved None))) c.deref-2.ensures
    (c.asked_at.ensures
    ∙ ap Some (asked_there lowered.code.now lowered.parts saved is_kept c.law.ensures status
    (c.index.ensures ∙ get_or_default_zero saved.statuses.items saved.place status low) input))))
