-- Copies that marks are kept by: one more, and one less.
use Rattle.std.proofs.Common.{◌≡◌, ℕ, List, [], ◌∷◌, ◌++◌, Bool, true, false, Option, Some, None, sym, ◌∙◌, subst}
use Rattle.std.proofs.Common.{append-nil}
use Rattle.std.specs.Prelude.{map, if◌then◌else◌, vec_len}
use Rattle.std.specs.{List.All, Option.option_to_list}
use Rattle.std.proofs.lemmas.List.Elements.{All-append, All-cons, All-head, All-nil, All-tail}
use Rattle.ick_code.specs.declared.code.Code.{Code}
use Rattle.ick_instructions.specs.declared.lowered.{LoweredParts.LoweredParts, Lowered.Lowered}
use Rattle.ick_marks.specs.Saved.{IsKept}
use Rattle.ick_runtime.specs.Inputs.{input_of}
use Rattle.ick_backtrack.specs.Machine.{Machine}
use Rattle.ick_machine.specs.{declared.{copied.{Copied.Copied, Copy.Copy}, trailed.Trailed.Trailed}, Seen.fixed_parts}
use Rattle.ick_machine.specs.Copies.{AreCopies, copied_state}

all_but_one : {A : Type 0} (P : A → Type 0) (xs : List A) (x : A) → All P (xs ++ x ∷ []) → All P xs × P x
all_but_one P [] x all = (All-nil P, All-head P x [] all)
all_but_one P (y ∷ xs) x all =
    let rest = all_but_one P xs x (All-tail P y (xs ++ x ∷ []) all) in
    (All-cons P y xs (All-head P y (xs ++ x ∷ []) all) rest.0, rest.1)

module _ (code : Code) (lowered : LoweredParts) where
  pub more : (copies all : List Copy) (copy : Copy) (grown : Bool) →
      all ≡ (if grown then copies ++ copy ∷ [] else copies) → IsKept code lowered copy.saved →
      AreCopies code lowered copies → AreCopies code lowered all
  more copies all copy true is kept given = subst (AreCopies code lowered) (sym is)
      (All-append (λ (copy : Copy). IsKept code lowered copy.saved) copies (copy ∷ []) given
      (All-cons (λ (copy : Copy). IsKept code lowered copy.saved) copy [] kept
      (All-nil (λ (copy : Copy). IsKept code lowered copy.saved))))
  more copies all copy false is kept given = subst (AreCopies code lowered) (sym is) given

  pub one_less : (copies all : List Copy) (copy : Copy) → all ≡ copies ++ copy ∷ [] → AreCopies code lowered all →
      AreCopies code lowered copies × IsKept code lowered copy.saved
  one_less copies all copy is given = all_but_one (λ (copy : Copy). IsKept code lowered copy.saved) copies copy
      (subst (AreCopies code lowered) is given)

  pub less : (copies all : List Copy) (o : Option Copy) → all ≡ copies ++ option_to_list o →
      AreCopies code lowered all → AreCopies code lowered copies
  less copies all None is given = subst (AreCopies code lowered) (is ∙ append-nil copies) given
  less copies all (Some copy) is given = (one_less copies all copy is given).0

-- the machine whose copies these are, over another machine's state
abbrev pub copied_over : Machine → Lowered × List ℕ × ℕ → List Copy → Machine
copied_over m fixed copies =
    record m { marks = map (copied_state fixed.0.code.now fixed.0.parts (input_of fixed.1)) copies }

-- a machine goes on to have no marks, and copies of its states
pub still_copied : (m : Copied) (new : Trailed) → fixed_parts new ≡ fixed_parts m.machine →
    (vec_len new.marks ≡ 0) × ∥ AreCopies new.lowered.code.now new.lowered.parts m.copies.items ∥₁
still_copied m new fixed =
    subst (λ (f : Lowered × List ℕ × ℕ). (f.2 ≡ 0) × ∥ AreCopies f.0.code.now f.0.parts m.copies.items ∥₁) (sym fixed)
    (m.unmarked, m.copied)
