-- Proves that a kept state is still one of the program if its output is left out, and lemmas on steps of programs whose
-- output is left out.
use Rattle.std.proofs.Common.{◌≡◌, ℕ, Bool, List, [], Option, Some, ap, sym, ◌∙◌, subst}
use Rattle.std.proofs.Props.{props}
use Rattle.std.specs.Global.{Vec}
use mathlib.Core.Logic.{∥∥₁_elim}
use Rattle.ick_code.specs.declared.code.Code.{Code}
use Rattle.ick_code.specs.meaning.Move.{Asking, ask as asks, advance as step}
use Rattle.ick_code.specs.meaning.State.{State}
use Rattle.ick_backtrack.specs.Asked.{IsGoing}
use Rattle.ick_backtrack.specs.Machine.{Program as Spoken}
use Rattle.ick_backtrack.specs.Steps.{IsPlain as SpokenPlain, RunsOn as SpokenRuns}
use Rattle.ick_instructions.specs.declared.lowered.LoweredParts.{LoweredParts}
use Rattle.ick_marks.specs.declared.saved.Saved.{Saved}
use Rattle.ick_marks.specs.Saved.{AreSame, IsKept, IsSaved}
use Rattle.ick_outcomes.specs.Programs.{Program, advance, ask, hushed, RunsOn}
use Rattle.ick_outcomes.proofs.Hushing.{plain_quiet}
use Rattle.ick_runtime.specs.Inputs.{Input}
use Rattle.ick_runtime.specs.Steady.{IsReady, IsSteady}
use Rattle.ick_runtime.specs.View.{Parts, View, parts_of}

-- parts and a view without output
abbrev quiet_parts : Parts → Parts
quiet_parts p = record p { output = []; last = 0 }

abbrev quiet_view : View → View
quiet_view m = record m { parts = quiet_parts m.parts }

-- a kept state without output
abbrev pub quiet_saved : Saved → Vec ℕ → Saved
quiet_saved saved v = record saved { rest = record saved.rest { output = v; last = 0 } }

quiet_steady : (code : Code) (lowered : LoweredParts) (m : View) → IsSteady code lowered m →
    IsSteady code lowered (quiet_view m)
quiet_steady code lowered m h = record {
  registers = h.registers;
  store_target = h.store_target;
  homes = h.homes;
  statuses = h.statuses;
  returns = h.returns;
  depth = h.depth;
  arrays = h.arrays;
  hidden = h.hidden;
  scalar_stashes = h.scalar_stashes;
  array_stashes = h.array_stashes;
  constants = h.constants;
}

quiet_ready : (code : Code) (lowered : LoweredParts) (m : View) → IsReady code lowered m →
    IsReady code lowered (quiet_view m)
quiet_ready code lowered m h = record {
  steady = quiet_steady code lowered m h.steady;
  stands = λ input. let s = h.stands input in record {
    represented = record {
      holds = record {
        numbers = s.represented.holds.numbers;
        fits = λ slot name at. let f = s.represented.holds.fits slot name at in
            record { number = f.number; stashed = f.stashed };
      };
      constant = s.represented.constant;
    };
    within = record { place_is = s.within.place_is; returns_are = s.within.returns_are; few = s.within.few };
  };
}

quiet_same : (lowered : LoweredParts) (saved : Saved) (v : Vec ℕ) (m : View) → v.items ≡ [] →
    IsSaved lowered saved m → IsSaved lowered (quiet_saved saved v) (quiet_view m)
quiet_same lowered saved v m e h = record {
  place_kept = h.place_kept;
  numbers_kept = h.numbers_kept;
  home_kept = h.home_kept;
  statuses_kept = h.statuses_kept;
  returns_kept = h.returns_kept;
  parts_kept = record {
    others = λ i. record (h.parts_kept.others i) { output = e i; last = 0 };
    scalars = h.parts_kept.scalars;
    arrays = h.parts_kept.arrays;
  };
}

-- a run can go on from it
pub kept_quiet : (code : Code) (lowered : LoweredParts) (saved : Saved) (v : Vec ℕ) → v.items ≡ [] →
    IsKept code lowered saved → IsKept code lowered (quiet_saved saved v)
kept_quiet code lowered saved v e kept =
    ∥∥₁_elim kept (hlevel props)
    (λ k. ∣ (quiet_view k.0, quiet_ready code lowered k.0 k.1, quiet_same lowered saved v k.0 e k.2) ∣₁)

-- what is asked, and a step
pub asked_is : (p : Program) (s : State) (a : Option Asking) → a ≡ Some (asks p.statements s) → a ≡ Some (ask p s)
unfolding ask
asked_is p s a h = h

pub going_is : (p : Program) (s : State) → IsGoing (ask p s) → IsGoing (asks p.statements s)
unfolding ask
going_is p s h = h

-- the steps of a program whose output is left out
pub moved : (p : Program) (s t u : State) (b : Bool) (k : ℕ) →
    SpokenRuns SpokenPlain p.statements (step p.statements s b) k t → u ≡ hushed p.silent t →
    RunsOn p (advance p s b) k u
unfolding advance
moved p s t u b k r e =
    subst (RunsOn p (hushed p.silent (step p.statements s b)) k) (sym e)
    (plain_quiet p (step p.statements s b) k t r)
