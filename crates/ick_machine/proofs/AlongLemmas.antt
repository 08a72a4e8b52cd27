-- How far a run over a feed has come, whose output leaves.
use Rattle.std.proofs.Common.{◌≡◌, ℕ, zero, suc, ◌+◌, ◌-◌, ◌<◌, ◌≤◌, Bool, true, false, List, [], ◌++◌, length, take}
use Rattle.std.proofs.Common.{refl, sym, ap, ◌∙◌, subst, arith, append_assoc}
use Rattle.std.specs.Prelude.{Ok, Err, if◌then◌else◌}
use Rattle.std.proofs.lemmas.List.{append-nil, length-append}
use Rattle.std.proofs.Math.Seq.{take-append-add}
use mathlib.Core.Logic.{∥∥₁_map}
use Rattle.ick_code.{proofs.{AskLaws.ask_same, Frames.advance_frame}, specs.meaning.{State.State, Move.{Asking, plain}}}
use Rattle.ick_code.specs.{meaning.Move.{choice, ended, ask, advance}, Laws.after_output}
use Rattle.ick_backtrack.specs.{Machine.Program, Steps.{IsPlain, RunsOn, after_steps}}
use Rattle.ick_machine.{proofs.StepsLemmas.{no_step, one_more, steps_on}, specs.{Feeds.MeetsInput, Live.LiveMachine}}
use Rattle.ick_machine.specs.{Live.{cleared, live_ask}, LiveAsk.live_asked, declared.asking.LiveAsk.TheVariants.Failed}
use Rattle.ick_machine.specs.{declared.{asking.LiveAsk.TheVariants.Plain, outlet.RunFault.RunFault}, Printing.IsAtInput}
use Rattle.ick_machine.specs.Printing.{Prints}

-- a machine asks nothing exactly if the definition does
same_plain : (a : Asking) → live_asked a ≡ Plain → a ≡ plain
same_plain plain h = refl
same_plain (choice k) h = cc
same_plain (ended e) h = cc

pub plain_here : (m : LiveMachine) → m.failed ≡ false → Plain ≡ live_ask m → IsPlain m.program m.state
plain_here m sound h =
    same_plain (ask m.program m.state)
    (sym (h ∙ ap (λ b. if b then Failed else live_asked (ask m.program m.state)) sound))

pub plain_there : (m : LiveMachine) → m.failed ≡ false → IsPlain m.program m.state → live_ask m ≡ Plain
plain_there m sound h =
    ap (λ b. if b then Failed else live_asked (ask m.program m.state)) sound ∙ ap live_asked h

pub plain_fed : (p : Program) (s : State) (left : List ℕ) → IsPlain p s → IsPlain p (record s { input = left })
plain_fed p s left h = ask_same p s (record s { input = left }) refl refl refl ∙ h

-- so many steps lead to a state, and all output before it is written but what the state has
pub record IsAlong (told : Bool) (p : Program) (s now : State) (written written' : List ℕ) (n : ℕ) : Type 0 where
  pub sent : List ℕ
  pub runs : RunsOn IsPlain p s n (after_output sent now)
  pub text : told ≡ true → written' ≡ written ++ sent

-- a state whose output has left is the same with what was written before it
left_then : (sent : List ℕ) (u : State) → after_output sent u ≡ after_output (sent ++ u.output) (cleared u)
left_then sent u = ap (λ x. record u { output = x }) (sym (append-nil (sent ++ u.output)))

plain_after : (p : Program) (s : State) (o : List ℕ) → IsPlain p s → IsPlain p (after_output o s)
plain_after p s o goes = ask_same p s (after_output o s) refl refl refl ∙ goes

-- what was written before doesn't matter for a run
module _ (p : Program) (o : List ℕ) (s : State) where
  steps_frame : (k : ℕ) → after_steps p (after_output o s) k ≡ after_output o (after_steps p s k)
  steps_frame zero = refl
  steps_frame (suc k) =
      ap (λ t. advance p t false) (steps_frame k) ∙ advance_frame p (after_steps p s k) false o

  runs_frame : (k : ℕ) (u : State) → RunsOn IsPlain p s k u → RunsOn IsPlain p (after_output o s) k (after_output o u)
  runs_frame k u runs = record {
    leads = ap (after_output o) runs.leads ∙ sym (steps_frame k);
    on = λ i lt. subst (IsPlain p) (sym (steps_frame i)) (plain_after p (after_steps p s i) o (runs.on i lt));
  }

-- a prefix of what is written behind a text
part_of : (w sent out after : List ℕ) (k : ℕ) → after ≡ (w ++ sent) ++ take k out →
    after ≡ w ++ take (length sent + k) (sent ++ out)
part_of w sent out after k is =
    is ∙ append_assoc w sent (take k out) ∙ ap (λ x. w ++ x) (sym (take-append-add sent out k))

module _ (told : Bool) (p : Program) (s : State) where
  pub along_start : (w : List ℕ) → IsAlong told p s s w w 0
  along_start w = record { sent = []; runs = no_step IsPlain p s; text = λ t. sym (append-nil w) }

  module _ {now : State} {w w' : List ℕ} {n : ℕ} (h : IsAlong told p s now w w' n) where
    runs_further : (k : ℕ) (u : State) → RunsOn IsPlain p now k u → RunsOn IsPlain p s (n + k) (after_output h.sent u)
    runs_further k u runs =
        steps_on IsPlain p s (after_output h.sent now) (after_output h.sent u) n k h.runs (runs_frame p h.sent now k u runs)

    -- many steps further, whose output is written
    pub along_further : (limit : ℕ) (now' : State) (w'' : List ℕ) (k : ℕ) →
        Prints {E = RunFault} told p now limit now' w' w'' (Ok k) → IsAlong told p s now' w w'' (n + k)
    along_further limit now' w'' k (all, is) = record {
      sent = h.sent ++ all.state.output;
      runs = subst (RunsOn IsPlain p s (n + k))
          (left_then h.sent all.state ∙ ap (after_output (h.sent ++ all.state.output)) (sym is))
          (runs_further k all.state all.runs);
      text = λ t. all.text t ∙ ap (λ x. x ++ all.state.output) (h.text t) ∙ append_assoc w h.sent all.state.output;
    }

    -- one step further
    pub along_step : (now' : State) → IsPlain p now → now' ≡ advance p now false → IsAlong told p s now' w w' (n + 1)
    along_step now' goes is = record {
      sent = h.sent;
      runs = one_more IsPlain p s (after_output h.sent now) (after_output h.sent now') n h.runs (plain_after p now h.sent goes)
          (ap (after_output h.sent) is ∙ sym (advance_frame p now false h.sent));
      text = h.text;
    }

    -- nothing is held
    last_of : now.output ≡ [] → (after_output h.sent now).output ≡ h.sent
    last_of none = ap (λ x. h.sent ++ x) none ∙ append-nil h.sent

    pub along_done : (limit : ℕ) → now.output ≡ [] → Prints {E = RunFault} told p s limit now w w' (Ok n)
    along_done limit none = (
      record {
        state = after_output h.sent now;
        runs = h.runs;
        text = λ t. h.text t ∙ ap (λ x. w ++ x) (sym (last_of none));
      },
      ap (λ x. record now { output = x }) none,
    )

    pub along_at_input : (limit : ℕ) → n < limit → now.output ≡ [] → IsPlain p now → MeetsInput p now →
        IsAtInput told p s limit w w'
    unfolding along_done
    along_at_input limit lt none goes meets =
        let done = along_done limit none in
        record { steps = n; within = lt; all = done.0; plain = plain_after p now h.sent goes; meets = meets }

    -- a prefix of what is held is written
    pub along_part : (limit : ℕ) (now' : State) (w'' : List ℕ) {E : Type 0} (error : E) → n ≤ limit →
        (told ≡ true → (k : ℕ) × (k ≤ length now.output) × (w'' ≡ w' ++ take k now.output)) →
        Prints told p s limit now' w w'' (Err error)
    along_part limit now' w'' error le wrote = λ t.
        let (k, few, is) = wrote t in
        let long = length-append h.sent now.output in
        ∣ (
          length h.sent + k,
          record {
            state = after_output h.sent now;
            reaches = record { steps = n; within = le; runs = h.runs };
            within = omega (arith, long, few);
            text = part_of w h.sent now.output w'' k (is ∙ ap (λ x. x ++ take k now.output) (h.text t));
          },
        ) ∣₁

    -- many steps were cut short
    pub along_cut : (limit : ℕ) (now' now'' : State) (w'' : List ℕ) {E D : Type 0} (error : E) (other : D) → n ≤ limit →
        Prints told p now (limit - n) now' w' w'' (Err error) → Prints told p s limit now'' w w'' (Err other)
    along_cut limit now' now'' w'' error other le cut = λ t. ∥∥₁_map (cut t) (λ found.
        let left = found.1 in
        let within = left.reaches.within in
        let few = left.within in
        let long = length-append h.sent left.state.output in (
          length h.sent + found.0,
          record {
            state = after_output h.sent left.state;
            reaches = record {
              steps = n + left.reaches.steps;
              within = omega (arith, within, le);
              runs = runs_further left.reaches.steps left.state left.reaches.runs;
            };
            within = omega (arith, long, few);
            text = part_of w h.sent left.state.output w'' found.0
                (left.text ∙ ap (λ x. x ++ take found.0 left.state.output) (h.text t));
          },
        ))
