use Rattle.std.proofs.Common.{◌≡◌, ◌+◌, ◌-◌, ◌<◌, ◌≤◌, ℕ, List, true, false, refl, inl, inr, sym, ◌∙◌, ap, subst, arith}
use Rattle.std.proofs.Common.{append-nil, rules}
use Rattle.std.specs.Prelude.{Result, Ok, Err, IfOk, OnOk, [], ◌^◌}
use mathlib.Core.Logic.{∥∥₁_map}
use Rattle.ick_bits.specs.declared.memory.NoMemory.{NoMemory as OutOfMemory}
use Rattle.ick_code.specs.meaning.{State.State, Move.advance}
use Rattle.ick_backtrack.specs.Steps.{IsPlain, RunsOn}
use Rattle.ick_machine.proofs.AlongLemmas.{IsAlong, along_start, along_further, along_step, along_done, along_part}
use Rattle.ick_machine.proofs.AlongLemmas.{along_cut, along_at_input, plain_fed, plain_here, plain_there}
use Rattle.ick_machine.proofs.{PrinterLemmas.{Kept, kept_first}, live.Live.run.{Given.Over, Goals.After-clear_output}}
use Rattle.ick_machine.proofs.live.Live.run.Goals.{In-Ok, Else-not-matches, After-step}
use Rattle.ick_machine.proofs.live.Live.run.Goals.{then-made-limit-via-then-made-limit, in-Plain, in_default}
use Rattle.ick_machine.proofs.live.Live.run.Goals.{then-made-limit-via-else-made-limit+then-not-matches}
use Rattle.ick_machine.specs.{Feeds.MeetsInput, Live.{LiveMachine, fed, live_ask, seen}, Printing.{HasLeft, HasPrinted}}
use Rattle.ick_machine.specs.{Printing.{Prints, is_error}, declared.{live.Live.Live, asking.LiveAsk.TheVariants.Plain}}
use Rattle.ick_machine.specs.declared.outlet.RunFault.{RunFault, TheVariants.{NoMemory, Read, Write}}
use Rattle.ick_engine.specs.Feeds.{one_if}
use Rattle.ick_machine.proofs.live.Live.run.Goals as goal

pub on-init : goal.on-init
on-init g c = record {
  reads = refl;
  writes = refl;
  held = refl;
  given = refl;
  sound = c.requires.sound;
  program = refl;
  within = omega arith;
  along = λ t. along_start g.O.Outlet.told _ _ _;
}

pub invariant_of-printer : goal.invariant_of-printer
invariant_of-printer g c =
    let m = seen c.of.result.value in
    let s = fed (g.F.Feed.left c.of-in-on.result.value) m.state in
    record {
      room = subst (λ o. g.O.Outlet.failed o + 1 < 2 ^ 64) (sym c.of-in-on-2.ensures)
          (omega (arith, c.on.invariant.writes, c.requires.writes));
      count = search rules;
      left = subst (λ o. Kept g.F.Feed.told g.O.Outlet.told m.program s (c.args.limit - c.on.made)
          (g.O.Outlet.written o) (g.O.Outlet.written c.on.outlet) 0 false) (sym c.of-in-on-2.ensures)
          (kept_first g.F.Feed.told g.O.Outlet.told m.program s (c.args.limit - c.on.made)
          (g.O.Outlet.written c.on.outlet));
    }

module _ (g : Over) (c : After-clear_output g) where
  abbrev first : LiveMachine
  first = seen c.args.self.now

  abbrev begin : State
  begin = fed (g.F.Feed.left c.args.feed.now) first.state

  -- before the call of `run_by`, and after it
  abbrev before : State
  before = fed (g.F.Feed.left c.on.feed) (seen c.on.self).state

  abbrev now : LiveMachine
  now = seen c.clear_output.new.self

  abbrev here : State
  here = fed (g.F.Feed.left c.on.feed) now.state

  abbrev written : List ℕ
  written = g.O.Outlet.written c.args.outlet

  abbrev after : List ℕ
  after = g.O.Outlet.written c.run_by-ran.new.printer.outlet

  same_now : now.program ≡ first.program
  same_now = ap (λ (m : LiveMachine). m.program) c.clear_output.ensures ∙ c.run_by-ran.ensures.program
      ∙ c.on.invariant.program

  empty : now.state.output ≡ []
  empty = ap (λ (m : LiveMachine). m.state.output) c.clear_output.ensures

  abbrev Held : Type 0
  Held = ℕ × Live × g.row.F.Denot × ℕ × g.row.O.Denot

  abbrev last : Held
  last =
      let n = c.run_by-ran.new.printer in
      (g.O.Outlet.held n.outlet, n.machine.value, n.feed.value, n.limit, n.first.value)

  -- what the printer kept
  kept : last ≡ (g.O.Outlet.held c.on.outlet, c.on.self, c.on.feed, c.args.limit - c.on.made, c.on.outlet)
  kept = cc (c.run_by-ran.ensures.held, c.of.ensures, c.of-in-on.ensures, c.of-in-on-2.ensures)

  -- if the call fails, a prefix has left of the output of this run
  cut : (fault : RunFault) → g.F.Feed.told ≡ true →
      Prints g.O.Outlet.told first.program begin c.args.limit here written after (Err fault)
  cut fault t = along_cut g.O.Outlet.told first.program begin (c.on.invariant.along t) c.args.limit here here after fault fault
      c.on.invariant.within (λ t'. ∥∥₁_map c.run_by-ran.new.printer.left (λ f.
      let x = f t t' in (
        x.0,
        subst (λ q. HasLeft q before (c.args.limit - c.on.made) (g.O.Outlet.written c.on.outlet) after x.0)
            c.on.invariant.program
            (subst (λ (h : Held). HasLeft (seen h.1).program
            (fed (g.F.Feed.left h.2) (seen h.1).state) h.3 (g.O.Outlet.written h.4) after x.0) kept x.2),
      )))

module _ (g : Over) (c : In-Ok g) where
  abbrev stage : After-clear_output g
  stage = (goal.at.In-Ok g c).After-clear_output

  -- what the call made
  made : HasPrinted g.F.Feed.told g.O.Outlet.told (seen c.on.self) (seen c.run_by-ran.new.self)
      (g.F.Feed.left c.of-in-on.result.value) (g.O.Outlet.written c.of-in-on-2.result.value) (after g stage)
      (c.args.limit - c.on.made) c.in-Ok.more
  made = subst (λ (r : Result ℕ OutOfMemory). IfOk r (λ k.
      HasPrinted g.F.Feed.told g.O.Outlet.told (seen c.on.self) (seen c.run_by-ran.new.self)
      (g.F.Feed.left c.of-in-on.result.value) (g.O.Outlet.written c.of-in-on-2.result.value) (after g stage)
      (c.args.limit - c.on.made) k)) c.in-Ok.is c.run_by-ran.ensures.made

  within : c.on.made + c.in-Ok.more ≤ c.args.limit
  within = omega (arith, made.within, c.on.invariant.within)

  -- and what it wrote
  gone_on : g.F.Feed.told ≡ true → IsAlong g.O.Outlet.told (first g stage).program (begin g stage) (here g stage)
      (written g stage) (after g stage) (c.on.made + c.in-Ok.more)
  gone_on t =
      let left = g.F.Feed.left in
      let new = seen c.run_by-ran.new.self in
      let at : List ℕ → List ℕ → Type 0 = λ l w. HasPrinted g.F.Feed.told g.O.Outlet.told (seen c.on.self) new l w
      (after g stage) (c.args.limit - c.on.made) c.in-Ok.more in
      let printed = subst (λ f. at (left f) (g.O.Outlet.written c.on.outlet)) c.of-in-on.ensures
      (subst (λ o. at (left c.of-in-on.result.value) (g.O.Outlet.written o)) c.of-in-on-2.ensures made) in
      along_further g.O.Outlet.told (first g stage).program (begin g stage) (c.on.invariant.along t) c.args.limit
      (here g stage) (after g stage) c.in-Ok.more (
        record {
          state = fed (left c.on.feed) new.state;
          runs = subst (λ q. RunsOn IsPlain q (before g stage) c.in-Ok.more (fed (left c.on.feed) new.state))
              c.on.invariant.program (printed.runs t);
          text = printed.text t;
        },
        ap (λ (m : LiveMachine). fed (left c.on.feed) m.state) c.clear_output.ensures,
      )

  done : g.F.Feed.told ≡ true → Prints {E = RunFault} g.O.Outlet.told (first g stage).program (begin g stage) c.args.limit
      (here g stage) (written g stage) (after g stage) (Ok (c.on.made + c.in-Ok.more))
  done t = along_done g.O.Outlet.told (first g stage).program (begin g stage) (gone_on t) c.args.limit (empty g stage)

  sound : (now g stage).failed ≡ false
  sound = ap (λ (m : LiveMachine). m.failed) c.clear_output.ensures ∙ c.run_by-ran.ensures.failed ∙ ap is_error c.in-Ok.is

  -- nothing is asked where a step follows
  plain_now : Plain ≡ live_ask (now g stage) → IsPlain (first g stage).program (here g stage)
  plain_now asks = plain_fed (first g stage).program (now g stage).state (g.F.Feed.left c.on.feed)
      (subst (λ q. IsPlain q (now g stage).state) (same_now g stage) (plain_here (now g stage) sound asks))

pub returns-in-Err-clause-prints : goal.returns-in-Err-clause-prints
returns-in-Err-clause-prints g c = cut g (goal.at.returns-in-Err-clause-prints g c).After-clear_output Write

pub returns-in-Err-2-clause-prints : goal.returns-in-Err-2-clause-prints
returns-in-Err-2-clause-prints g c = cut g (goal.at.returns-in-Err-2-clause-prints g c).After-clear_output NoMemory

pub returns-then-made-limit-clause-prints : goal.returns-then-made-limit-clause-prints
returns-then-made-limit-clause-prints g c = done g (goal.at.returns-then-made-limit-clause-prints g c).In-Ok

pub returns-then-made-limit-clause-rests : goal.returns-then-made-limit-clause-rests
returns-then-made-limit-clause-rests g c =
    let ok = (goal.at.returns-then-made-limit-clause-rests g c).In-Ok in
    record {
      within = within g ok;
      rests = elim c.then-made-limit.branch [
        | then-made-limit-via-then-made-limit w ↦ inl w.if-made-limit.true
        | then-made-limit-via-else-made-limit+then-not-matches w ↦
            inr (λ plain. elim w.match-matches.branch [
              | in-Plain t ↦ absurd (cc (t.matches-is, w.if-not-matches.true))
              | in_default t ↦
                  t.in_default.not-Plain (w.asks.ensures ∙ plain_there (now g (stage g ok)) (sound g ok) plain)
            ])
      ];
    }

-- a step follows only if nothing is asked
goes : (g : Over) (c : Else-not-matches g) →
    let ok = (goal.at.Else-not-matches g c).In-Ok in
    IsPlain (first g (stage g ok)).program (here g (stage g ok))
goes g c = elim c.match-matches.branch [
  | in-Plain w ↦ plain_now g (goal.at.Else-not-matches g c).In-Ok (sym w.in-Plain.is ∙ c.asks.ensures)
  | in_default w ↦ absurd (cc (w.matches-is, c.if-not-matches.false))
]

-- nothing more is written if the step fails
failed : (g : Over) (c : After-step g) → g.F.Feed.told ≡ true → (fault : RunFault) →
    let at = stage g (goal.at.After-step g c).In-Ok in
    Prints g.O.Outlet.told (first g at).program (begin g at) c.args.limit
    (fed (g.F.Feed.left c.step.new.feed) (seen c.step.new.self).state) (written g at) (after g at) (Err fault)
failed g c t fault =
    let ok = (goal.at.After-step g c).In-Ok in
    along_part g.O.Outlet.told _ _ (gone_on g ok t) c.args.limit
    (fed (g.F.Feed.left c.step.new.feed) (seen c.step.new.self).state) (after g (stage g ok)) fault (within g ok)
    (λ t'. (0, omega arith, sym (append-nil (after g (stage g ok)))))

pub returns-in-Err-NoMemory-clause-prints : goal.returns-in-Err-NoMemory-clause-prints
returns-in-Err-NoMemory-clause-prints g c = λ t.
    failed g (goal.at.returns-in-Err-NoMemory-clause-prints g c).After-step t NoMemory

pub returns-in-Err-Read-clause-prints : goal.returns-in-Err-Read-clause-prints
returns-in-Err-Read-clause-prints g c = λ t. failed g (goal.at.returns-in-Err-Read-clause-prints g c).After-step t Read

pub returns-in-Err-Read-clause-input : goal.returns-in-Err-Read-clause-input
returns-in-Err-Read-clause-input g c = λ t _.
    let ok = (goal.at.returns-in-Err-Read-clause-input g c).In-Ok in
    let few = within g ok in
    let lt : c.on.made + c.in-Ok.more < c.args.limit = omega (arith, few, c.if-made-limit.false) in
    along_at_input g.O.Outlet.told _ _ (gone_on g ok t) c.args.limit lt (empty g (stage g ok))
    (goes g (goal.at.returns-in-Err-Read-clause-input g c).Else-not-matches)
    (subst (λ q. MeetsInput q (now g (stage g ok)).state) (same_now g (stage g ok))
    (c.step.ensures.reads (c.in-Err-Read.is ∙ ap Err c.in-Err-Read.field-0-is)))

pub on-preserved : goal.on-preserved
on-preserved g c =
    let ok = (goal.at.on-preserved g c).In-Ok in
    let at = stage g ok in
    let i = c.on.invariant in
    let n = c.run_by-ran.new.printer in
    let first_failed = ap (λ (h : Held g at). g.O.Outlet.failed h.4) (kept g at) in
    let few = within g ok in
    let whole =
    subst (λ (r : Result ℕ OutOfMemory). OnOk r (n.broken ≡ false)) c.in-Ok.is c.run_by-ran.ensures.sound in
    record {
      reads = omega (arith, c.in-Ok-step.ensures.count, i.reads);
      writes = omega (arith, n.count, first_failed, ap one_if whole, i.writes);
      held = c.step.ensures.held ∙ i.held;
      given = ap (λ (h : Held g at). h.0) (kept g at) ∙ i.given;
      sound = c.in-Ok-step.ensures.ok;
      program = c.step.ensures.program ∙ same_now g at;
      within = omega (arith, few, c.if-made-limit.false);
      along = λ t. along_step g.O.Outlet.told _ _ (gone_on g ok t)
          (fed (g.F.Feed.left c.step.new.feed) (seen c.step.new.self).state)
          (goes g (goal.at.on-preserved g c).Else-not-matches)
          (subst (λ q. fed (g.F.Feed.left c.step.new.feed) (seen c.step.new.self).state ≡ advance q (here g at) false)
          (same_now g at) (c.in-Ok-step.ensures.advances t));
    }
