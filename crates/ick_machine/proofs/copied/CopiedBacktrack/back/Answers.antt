use Rattle.std.proofs.Common.{◌∷◌, [], ◌++◌, ap, sym, ◌∙◌, subst, arith}
use Rattle.std.specs.Prelude.{map, reverse}
use Rattle.std.proofs.lemmas.List.{map-append}
use mathlib.Core.Logic.{∥∥₁_map, ∥∥₁_elim}
use Rattle.ick_runtime.specs.{Memory.view_in, Inputs.input_of}
use Rattle.ick_machine.specs.{Copies.copied_state, Marks.AreMarksIn, Run.run_state}
use Rattle.ick_machine.proofs.{CopyLemmas.one_less, FedLemmas.no_items, WholeLemmas.seen_at}
use Rattle.ick_machine.proofs.copied.CopiedBacktrack.back.Goals as goal

pub exchange-requires-clause-kept : goal.exchange-requires-clause-kept
exchange-requires-clause-kept c =
    rw c.program.ensures (
    let m = c.args.self.now in
    ∥∥₁_elim m.copied (hlevel) (λ are.
    (one_less m.machine.lowered.code.now m.machine.lowered.parts c.pop.new.self.items m.copies.items c.in-Some.field-0
    c.in-Some.ensures.items are).1))

pub invariant_of-machine : goal.invariant_of-machine
invariant_of-machine c =
    let m = c.args.self.now.machine in
    let none = no_items m.marks.items (sym m.marks.ok.0 ∙ c.args.self.now.unmarked) in
    record {
      can = ∣ record {
        ready = rw (sym c.program.ensures) c.exchange.ensures.loaded.ready;
        low = omega (arith, c.clear.ensures.low);
        base = c.clear.ensures.base ∙ c.law.ensures.can.base;
      } ∣₁;
      marked = ∣ subst (AreMarksIn m.lowered.code.now m.lowered.parts c.clear.new.self c.exchange.new.memory)
          (sym (ap reverse none)) tt ∣₁;
    }

pub invariant_of-self : goal.invariant_of-self
invariant_of-self c =
    let m = c.args.self.now in
    record {
      unmarked = m.unmarked;
      copied = ∥∥₁_map m.copied (λ are.
          (one_less m.machine.lowered.code.now m.machine.lowered.parts c.pop.new.self.items m.copies.items c.in-Some.field-0
          c.in-Some.ensures.items are).0);
    }

pub returns-in-Some : goal.returns-in-Some
returns-in-Some c =
    rw (sym c.program.ensures) (
    let m = c.args.self.now in
    let code = c.program.result.now.code.now in
    let lowered = c.program.result.now.parts in
    let input = input_of m.machine.input.now in
    let f = copied_state code lowered input in
    let copy = c.in-Some.field-0 in
    let s = run_state code lowered input (view_in m.machine.memory) m.machine.end in
    let older = c.pop.new.self.items in
    ap (λ marks. seen_at code s marks m.machine.work)
    (ap (map f) c.in-Some.ensures.items ∙ map-append f older (copy ∷ [])
    ∙ ap (λ t. map f older ++ (record t { end = (f copy).end }) ∷ []) (sym (c.exchange.ensures.loaded.states input))))
