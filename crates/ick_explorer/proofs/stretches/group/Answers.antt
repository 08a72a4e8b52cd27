use Rattle.std.proofs.Common.{◌≡◌, ◌+◌, ◌<◌, ◌≤◌, ◌-◌, ◌∷◌, ◌++◌, [], false, length, take, get_or, ap, sym, ◌∙◌}
use Rattle.std.proofs.Common.{arith, rules}
use Rattle.std.specs.Prelude.{Some}
use Rattle.std.proofs.lemmas.Grind.{common_steps}
use Rattle.std.proofs.lemmas.List.{nil_from_length, length-take-le, get_or_default}
use Rattle.ick_explorer.specs.ChoiceTexts.{Differs, stretches}
use Rattle.ick_explorer.specs.Choices.{seen_stretch, seen_stretches}
use Rattle.ick_explorer.proofs.StretchLaws.{one_of, first_of_all, grown_at, begun_at, last_size, seen_push, seen_last}
use Rattle.ick_explorer.proofs.StretchLaws.{seen_set}
use Rattle.ick_explorer.proofs.stretches.group.Goals as goal
use Rattle.ick_explorer.proofs.stretches.group.Goals.{then-count-gt0+then-index-choice, else-count-gt0+in-Ok}
use Rattle.ick_explorer.proofs.stretches.group.Goals.{else-count-gt0-via-then-count-gt0+else-index-choice}
use Rattle.ick_explorer.proofs.stretches.group.Goals.{else-count-gt0-via-else-count-gt0}

pub overflow_add-index_mut : goal.overflow_add-index_mut
overflow_add-index_mut c =
    let kept = c.loop-at.kept.items in
    let choices = c.args.choices.now in
    let last = c.index_mut.result.now in
    let n = c.len-count.result - 1 in
    let count : n + 1 ≡ length kept = grind (arith, common_steps) in
    let lt : c.loop-at.at < length choices = grind (arith, common_steps) in
    let le = last_size (take c.loop-at.at choices) (seen_stretches (take n kept)) (seen_stretch last)
    (sym c.loop-at.invariant.kept ∙ seen_last kept n last count c.index_mut.ensures.value) in
    let size = length-take-le c.loop-at.at choices (omega (arith, lt)) in
    let fits : last.size + 1 ≤ length choices = omega (arith, le, size, lt) in
    grind (arith, common_steps)

pub loop-at-preserved : goal.loop-at-preserved
loop-at-preserved c =
    let at = c.loop-at.at in
    let kept = c.loop-at.kept.items in
    let choices = c.args.choices.now in
    let choice = get_or choices at false in
    let n = c.len-count.result - 1 in
    let lt : at < length choices = grind (arith, common_steps) in
    let before = c.loop-at.invariant.kept in
    let grown : seen_stretches c.if-count-gt0.kept.items ≡ stretches (take (at + 1) choices) =
    elim c.if-count-gt0.branch [
      | then-count-gt0+then-index-choice w ↦
          let last = w.index_mut.result.now in
          let front = seen_stretches (take n kept) in
          let count : n + 1 ≡ length kept = grind (arith, common_steps) in
          let first = w.index.result.now in
          let tested : first.choice ≡ choice = search rules in
          let one : last ≡ first =
          w.index_mut.ensures.value
          ∙ (get_or_default kept n last first (omega (arith, count)) ∙ sym w.index.ensures) in
          let same : last.choice ≡ choice = ap (λ s. s.choice) one ∙ tested in
          ap (λ v. seen_stretches v.items) w.kept-is
          ∙ (seen_set kept n _ count
          ∙ (ap (λ b. front ++ record { choice = b; size = last.size + 1 } ∷ []) same
          ∙ grown_at choices at (seen_stretches kept) front (seen_stretch last) lt before
          (seen_last kept n last count w.index_mut.ensures.value) same))
      | else-count-gt0+in-Ok w ↦
          ap (λ v. seen_stretches v.items) w.kept-is
          ∙ (ap seen_stretches w.in-Ok.ensures.items
          ∙ (seen_push kept _ ∙ elim w.else-count-gt0.branch [
            | else-count-gt0-via-then-count-gt0+else-index-choice w' ↦
                let last = w'.index.result.now in
                let front = seen_stretches (take n kept) in
                let count : n + 1 ≡ length kept = grind (arith, common_steps) in
                let other : Differs (Some last.choice) choice = search rules in
                let split = seen_last kept n last count w'.index.ensures in
                ap (λ ss. ss ++ one_of choice ∷ []) split
                ∙ begun_at choices at (seen_stretches kept) front (seen_stretch last) lt before split other
            | else-count-gt0-via-else-count-gt0 w' ↦
                let none : length kept ≡ 0 = grind (arith, common_steps) in
                let empty = ap seen_stretches (nil_from_length kept none) in
                ap (λ ss. ss ++ one_of choice ∷ []) empty
                ∙ first_of_all choices at (seen_stretches kept) lt before empty
          ]))
    ] in
    record { within = omega (arith, lt); kept = grown }
