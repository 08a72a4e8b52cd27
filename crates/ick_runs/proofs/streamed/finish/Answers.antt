use Rattle.std.proofs.Common.{◌≡◌, ◌++◌, rules, refl, ap, sym, subst, ◌∙◌}
use Rattle.std.specs.Prelude.{Err}
use Rattle.ick_machine.specs.Live.{seen, fault_message}
use Rattle.ick_explorer.specs.declared.errors.RunsError.TheVariants.{NoMemory}
use Rattle.ick_runs.specs.Streams.{Streams}
use Rattle.ick_runs.specs.Streaming.{Stops}
use Rattle.ick_runs.proofs.StreamLaws.{stopped_streams, stopped_cut}
use Rattle.ick_runs.proofs.streamed.finish.Goals as goal

pub returns-in_err-end-clause-run : goal.returns-in_err-end-clause-run
returns-in_err-end-clause-run c = λ told x c' w w' left stops.
    let cut = subst (λ r. Stops told x c' c.args.choices.items (fault_message (seen c.args.machine.now)) w w' left r)
    c.in_err-end.was stops in
    let e : c.from_residual.result ≡ Err c.in_err-end.field-0.0 = search rules in
    subst (λ r. Streams told x c' w w' left r) (sym e) cut

pub returns-in_err-append_fault-clause-run : goal.returns-in_err-append_fault-clause-run
returns-in_err-append_fault-clause-run c = λ told x c' w w' left stops.
    let stopped = subst (λ r. Stops told x c' c.args.choices.items (fault_message (seen c.args.machine.now)) w w' left
    r) c.in_ok-end.was stops in
    let e : c.from_residual-in_err-append_fault.result ≡ Err NoMemory = search rules in
    subst (λ r. Streams told x c' w w' left r) (sym e) (stopped_cut _ _ c' _ _ _ _ left _ _ stopped)

pub returns-clause-run : goal.returns-clause-run
returns-clause-run c = λ told x c' w w' left stops.
    let stopped = subst (λ r. Stops told x c' c.args.choices.items (fault_message (seen c.args.machine.now)) w w' left
    r) c.in_ok-end.was stops in
    stopped_streams told x c' _ _ _ _ _ _ _ stopped _ refl
    (c.in_ok-append_fault.ensures.ok ∙ ap (λ m. m ++ fault_message (seen c.args.machine.now)) c.new-message.ensures.items)
    refl refl
