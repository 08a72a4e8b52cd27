use Rattle.std.proofs.Common.{◌≡◌, Some, ◌++◌, append-nil, le_refl, inl, inr, ap, sym, ◌∙◌, rules}
use Rattle.std.specs.Prelude.{vec_capacity}
use Rattle.ick_bits.specs.Faults.{message_of}
use Rattle.ick_code.specs.meaning.State.{gave_up, faulted}
use Rattle.ick_backtrack.specs.Asked.{finished, finish_of}
use Rattle.ick_runtime.specs.Memory.{view_in}
use Rattle.ick_machine.proofs.{LiveLemmas.{no_message, said_at}, live.Live.append_fault.Goals.After-append_message}
use Rattle.ick_machine.specs.Live.{fault_message, seen}
use Rattle.ick_machine.proofs.live.Live.append_fault.Goals as goal

pub returns-in_default-clause-ok : goal.returns-in_default-clause-ok
unfolding seen
returns-in_default-clause-ok c = search (rules, append-nil, no_message)

-- the message is that of the fault
said : (c : After-append_message) →
    fault_message (seen c.args.self.now) ≡ message_of c.in-Fault.fault.kind c.in-Fault.fault.statement
    c.in-Fault.fault.subject.now
unfolding seen
said c =
    rw (sym c.program.ensures) (
    let live = c.args.self.now in
    let code = c.program.result.now.code.now in
    let fault = c.in-Fault.fault in
    said_at code c.program.result.now.parts live.line.items c.deref.result.now (view_in live.memory)
    c.deref.ensures.value live.end c.in-Some.ended (finish_of c.end_of.result)
    (faulted fault.kind fault.statement fault.subject.now) c.in-Some.is c.end_of.ensures (ap finish_of c.in-Fault.is))

pub returns-in-Fault-clause-ok : goal.returns-in-Fault-clause-ok
returns-in-Fault-clause-ok c = search (rules, said)

pub returns-in-Fault-clause-full : goal.returns-in-Fault-clause-full
returns-in-Fault-clause-full c = search (rules, said)

pub returns-in-GiveUp : goal.returns-in-GiveUp
unfolding seen
returns-in-GiveUp c =
    rw (sym c.program.ensures) (
    let live = c.args.self.now in
    let code = c.program.result.now.code.now in
    let out = c.args.out.now.items in
    let gave : finish_of c.end_of.result ≡ finished gave_up =
    elim c.in-GiveUp.is [
      | inl is ↦ ap finish_of is
      | inr is ↦
          let limit = ap (λ e. Some (finish_of e)) (sym is) ∙ c.end_of.ensures in absurd (cc)
    ] in
    let none =
    said_at code c.program.result.now.parts live.line.items c.deref.result.now (view_in live.memory)
    c.deref.ensures.value live.end c.in-Some.ended (finish_of c.end_of.result) gave_up c.in-Some.is c.end_of.ensures
    gave in
    record {
      ok = sym (ap (λ message. out ++ message) none ∙ append-nil out);
      err = tt;
      full = tt;
      capacity = le_refl (vec_capacity c.args.out.now);
    })
