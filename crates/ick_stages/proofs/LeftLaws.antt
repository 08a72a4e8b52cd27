-- Instructions that are left, one more at a time.
use Rattle.std.proofs.Common.{◌≡◌, ◌∙◌, ℕ, ◌+◌, ◌<◌, List, Option, Some, length, get_or, ap, sym, add-one}
use Rattle.std.specs.Prelude.{slice_get}
use Rattle.ick_instructions.specs.declared.instruction.Instruction.{Instruction}
use Rattle.std.proofs.lemmas.Option.{slice_get-get_or}
use Rattle.ick_stages.specs.Left.{Sorts, line_at, line_found, left_line, maker_at, sort_found, sort_one, sorted_first}
use Rattle.ick_stages.specs.Registers.{RegisterNames}
use Rattle.ick_stages.specs.Steps.{Made}
use Rattle.ick_stages.specs.declared.left.Left.{Left}

-- the line of an instruction that is there
pub line_is : (names : RegisterNames) (made : Made) (left : List Left) (kept : List Instruction) (at : ℕ) (d : Instruction)
    {from : Option Left} → from ≡ slice_get left at → at < length kept →
    left_line names made from (at + 1) (get_or kept at d) ≡ line_at names made left kept at
line_is names made left kept at d is within =
    ap (λ f. left_line names made f (at + 1) (get_or kept at d)) is
    ∙ sym (ap (line_found names made (slice_get left at) (at + 1)) (slice_get-get_or kept at d within))

-- one more is sorted
pub sorted_more : (instructions : List Instruction) (first : List ℕ) (kept : List Instruction) (at : ℕ)
    {i : Instruction} {next : Option Instruction} {maker : ℕ} {old new : Sorts} →
    old ≡ sorted_first instructions first kept at →
    slice_get instructions at ≡ Some i →
    next ≡ slice_get kept (length old.left) → maker ≡ maker_at first at →
    new ≡ sort_one next i at maker old →
    new ≡ sorted_first instructions first kept (at + 1)
sorted_more instructions first kept at {i} {next} {maker} {old} {new} before there nexts makers is =
    let s = sorted_first instructions first kept at in
    rw add-one
    (is ∙ (ap (λ n. sort_one n i at maker old) nexts
    ∙ (ap (λ m. sort_one (slice_get kept (length old.left)) i at m old) makers
    ∙ (ap (λ o. sort_one (slice_get kept (length o.left)) i at (maker_at first at) o) before
    ∙ sym (ap (λ x. sort_found (slice_get kept (length s.left)) x at (maker_at first at) s) there)))))
