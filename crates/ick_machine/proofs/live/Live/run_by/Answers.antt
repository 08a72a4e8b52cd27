use Rattle.std.proofs.Common.{◌++◌, ◌≡◌, ◌≤◌, ℕ, List, false, true, refl, sym, ◌∙◌, ap, subst, arith, rules}
use Rattle.std.proofs.lemmas.Bool.{false≢true}
use Rattle.ick_code.specs.meaning.State.{State}
use Rattle.ick_instructions.specs.declared.lowered.Lowered.{Lowered}
use Rattle.ick_backtrack.specs.Steps.{IsPlain, RunsOn}
use Rattle.ick_runtime.specs.{Memory.view_in, Inputs.Input}
use Rattle.ick_engine.specs.Feeds.{MayBeLeft, input_after, some_left}
use Rattle.ick_machine.proofs.{FedLemmas.begun_at, Readiness.ready_unless, StepLemmas.goes_to, StepsLemmas.no_step}
use Rattle.ick_machine.{proofs.live.Live.run_by.{Given.Over, Goals.{Start, In_ok-made}}, specs.Live.{fed, seen}}
use Rattle.ick_machine.specs.{Printing.MayLeave, RunIn.{program_of, state_in}, declared.live.Live.Live}
use Rattle.ick_machine.proofs.live.Live.run_by.Goals as goal

-- what a printer keeps of a run
abbrev Held : Over → Type 0
Held g = ℕ × Live × g.row.F.Denot × ℕ × g.row.O.Denot

module _ (g : Over) (c : Start g) where
  abbrev live : Live
  live = c.args.self.now

  abbrev left : List ℕ
  left = g.F.Feed.left c.args.printer.now.feed.value

  -- it is the run of this machine
  abbrev IsKept : Held g → Type 0
  IsKept h = h ≡ (
    g.O.Outlet.held c.args.printer.now.outlet,
    live,
    c.args.printer.now.feed.value,
    c.args.printer.now.limit,
    c.args.printer.now.first.value,
  )

  kept : IsKept (
    g.O.Outlet.held c.args.printer.now.outlet,
    c.args.printer.now.machine.value,
    c.args.printer.now.feed.value,
    c.args.printer.now.limit,
    c.args.printer.now.first.value,
  )
  kept = cc (c.requires.machine)

  -- the output of a state may leave to which the run comes
  may : (h : Held g) → IsKept h → (made : ℕ) → made ≤ c.args.printer.now.limit → (s : State) →
      RunsOn IsPlain (seen live).program (fed left (seen live).state) made s → (o : List ℕ) → s.output ≡ o →
      MayLeave (seen h.1).program (fed (g.F.Feed.left h.2) (seen h.1).state) h.3 o
  may h same made within s runs o is =
      subst (λ (h : Held g). MayLeave (seen h.1).program (fed (g.F.Feed.left h.2) (seen h.1).state) h.3 o) (sym same)
      (record { state = s; reaches = record { steps = made; within = within; runs = runs }; output_is = is })

  -- where the run of these steps leads, by what the feed tells
  reaches : (h : Held g) → IsKept h → g.F.Feed.told ≡ true → (before : Input) →
      MayBeLeft g.F.Feed.told false h.1.line.items (g.F.Feed.left h.2) before → (lowered : Lowered) →
      lowered ≡ live.lowered → (made : ℕ) (s : State) →
      RunsOn IsPlain (program_of lowered) (state_in lowered before live.memory live.end) made s →
      RunsOn IsPlain (seen live).program (fed left (seen live).state) made s
  unfolding seen
  reaches h same tells before has lowered is made s runs =
      begun_at live.lowered.code.now live.lowered.parts g.F.Feed.told live.line.items left (view_in live.memory) live.end
      before tells (subst (λ (h : Held g). MayBeLeft g.F.Feed.told false h.1.line.items (g.F.Feed.left h.2) before) same has)
      (λ t. RunsOn IsPlain (program_of live.lowered) t made s)
      (subst (λ (l : Lowered). RunsOn IsPlain (program_of l) (state_in l before live.memory live.end) made s) is runs)

pub leave-requires : goal.leave-requires
unfolding seen
leave-requires g c = λ tells.
    let stage = (goal.at.leave-requires g c).Start in
    may g stage _ (kept g stage) 0 (omega arith) _ (no_step IsPlain _ _) c.output.result.now (sym c.output.ensures)

pub make_steps-requires-clause-ready : goal.make_steps-requires-clause-ready
unfolding seen
make_steps-requires-clause-ready g c = search (rules, ready_unless)

pub make_steps-requires-clause-prints : goal.make_steps-requires-clause-prints
make_steps-requires-clause-prints g c = λ going before has made within answer s goes tells.
    let stage = (goal.at.make_steps-requires-clause-prints g c).Start in
    let same = c.in_ok-leave.ensures.held ∙ kept g stage in
    let prog = c.program-program.result.now in
    may g stage _ same made within s
    (reaches g stage _ same tells before has prog c.program-program.ensures made s
    (subst (λ e. RunsOn IsPlain (program_of prog) (state_in prog before c.args.self.now.memory e) made s) (sym going)
    (goes_to prog.code.now prog.parts _ s made answer goes))) s.output refl

-- the run leads to the state of the memory
led : (g : Over) (c : In_ok-made g) → g.F.Feed.told ≡ true → (after : Input) →
    MayBeLeft g.F.Feed.told false c.make_steps.new.reader.machine.value.line.items
    (g.F.Feed.left c.make_steps.new.reader.feed.value) after →
    RunsOn IsPlain (seen c.args.self.now).program
    (fed (left g (goal.at.In_ok-made g c).Start) (seen c.args.self.now).state) c.in_ok-made.made
    (state_in c.args.self.now.lowered after c.make_steps.new.memory c.make_steps.new.end)
led g c tells after has =
    let stage = (goal.at.In_ok-made g c).Start in
    let found = c.in_ok-made.ensures.runs refl after has in
    let m = c.args.self.now in
    let prog = c.program-program.result.now in
    let call = c.make_steps.new in
    reaches g stage _ (c.in_ok-leave.ensures.held ∙ kept g stage) tells found.0 found.1 prog c.program-program.ensures
    c.in_ok-made.made (state_in m.lowered after call.memory call.end)
    (subst (λ (l : Lowered). RunsOn IsPlain (program_of prog) (state_in prog found.0 m.memory m.end) c.in_ok-made.made
    (state_in l after call.memory call.end)) c.program-program.ensures found.2)

pub leave-requires-2 : goal.leave-requires-2
unfolding seen
leave-requires-2 g c = λ tells.
    let at = goal.at.leave-requires-2 g c in
    let n = c.make_steps.new.reader in
    let some = some_left g.F.Feed.told false n.machine.value.line.items (g.F.Feed.left n.feed.value)
    (λ e. absurd (false≢true e)) in
    let last = state_in c.args.self.now.lowered some.0 c.make_steps.new.memory c.make_steps.new.end in
    may g at.Start _ (c.make_steps.ensures.held_same ∙ c.in_ok-leave.ensures.held ∙ kept g at.Start) c.in_ok-made.made
    c.in_ok-made.ensures.within last (led g at.In_ok-made tells some.0 some.1) c.output-2.result.now
    (sym c.output-2.ensures)

pub returns-clause-made : goal.returns-clause-made
unfolding seen
returns-clause-made g c =
    let at = goal.at.returns-clause-made g c in
    let live = c.args.self.now in
    let left = g.F.Feed.left c.args.printer.now.feed.value in
    let same = c.make_steps.ensures.held_same ∙ c.in_ok-leave.ensures.held ∙ kept g at.Start in
    record {
      within = c.in_ok-made.ensures.within;
      runs = λ tells. led g at.In_ok-made tells (input_after live.line.items left)
          (subst (λ (h : Held g). MayBeLeft g.F.Feed.told false h.1.line.items (g.F.Feed.left h.2)
          (input_after live.line.items left)) (sym same)
          (record { word = λ from to. refl; told_left = λ t place. refl; none_left = λ e place. absurd (false≢true e) }));
      text = λ t t'. c.in_ok-leave-2.ensures.all t t'
          ∙ ap (λ (h : Held g). g.O.Outlet.written h.4 ++ c.output-2.result.now) same
          ∙ ap (λ o. g.O.Outlet.written c.args.printer.now.first.value ++ o) c.output-2.ensures;
    }
