-- A truncated ghost field says that a run can go on, unless the machine has failed. The output doesn't matter for this.
use Rattle.std.proofs.Common.{◌≡◌, ℕ, Bool, false, List, rules}
use mathlib.Core.Logic.{∥∥₁_elim, ∥∥₁_map}
use mathlib.Core.Path.{fun_ext}
use Rattle.ick_code.specs.declared.code.Code.{Code}
use Rattle.ick_instructions.specs.declared.lowered.LoweredParts.{LoweredParts}
use Rattle.ick_runtime.{proofs.Steps.stands_with, specs.{Steady.IsReady, View.{View, file_of, state_of}}}
use Rattle.ick_marks.proofs.Readiness.{ready-prop}

pub ready_unless : (code : Code) (lowered : LoweredParts) (v : View) (failed : Bool) →
    ∥ (failed ≡ false → IsReady code lowered v) ∥₁ → failed ≡ false → IsReady code lowered v
ready_unless code lowered v failed h =
    ∥∥₁_elim h (λ f g. fun_ext (λ is. ready-prop code lowered v (f is) (g is))) (λ x. x)

pub ready_with : (code : Code) (lowered : LoweredParts) (v : View) (o : List ℕ) → IsReady code lowered v →
    IsReady code lowered (record v { parts = record v.parts { output = o } })
ready_with code lowered v o h = record {
  steady = search rules;
  stands = λ input.
      let s = state_of code lowered input v in
      stands_with code lowered (file_of lowered v.registers) s s.input o s.end (h.stands input);
}

pub unless_with : (code : Code) (lowered : LoweredParts) (v : View) (failed : Bool) (o : List ℕ) →
    ∥ (failed ≡ false → IsReady code lowered v) ∥₁ →
    ∥ (failed ≡ false → IsReady code lowered (record v { parts = record v.parts { output = o } })) ∥₁
unless_with code lowered v failed o h = ∥∥₁_map h (λ f is. ready_with code lowered v o (f is))
