use Rattle.std.proofs.Common.{◌≡◌, ◌<◌, ◌∙◌, ◌+◌, ◌++◌, ◌∷◌, [], ap, append_assoc, arith, get_or, length, subst, suc, sym, take}
use Rattle.ick_outcomes.specs.Askers.{asker_text, askers_text}
use Rattle.ick_outcomes.specs.declared.following.AskedBy.{AskedBy}
use Rattle.ick_outcomes.proofs.AskerLaws.{all_askers, first_asker, next_asker}
use Rattle.ick_outcomes.proofs.following.asked_text.Goals as goal
use Rattle.ick_outcomes.proofs.following.asked_text.Goals.{then-at-gt0+in_ok-push, else-at-gt0}

pub askers-preserved : goal.askers-preserved
askers-preserved c =
    let asked = c.args.asked.now in
    let at = c.askers.at in
    let end = c.min-at-end.ensures in
    let more = c.askers-test.true in
    let within : at < length asked = omega (arith, end, more) in
    let next : suc at ≡ at + 1 = omega arith in
    let d : AskedBy = record { statement = 0; chance = 0 } in
    let a = get_or asked at d in
    subst (λ n. c.append_asker.new.out.items ≡ askers_text (take n asked)) next (elim c.if-at-gt0.branch [
      | then-at-gt0+in_ok-push w ↦
          let texts = ap (λ v. v.items) w.text-is
          ∙ (w.in_ok-push.ensures.items ∙ ap (λ t. t ++ 32 ∷ []) c.askers.invariant) in
          c.in_ok-append_asker.ensures ∙ (ap (λ t. t ++ asker_text a) texts
          ∙ (append_assoc (askers_text (take at asked)) (32 ∷ []) (asker_text a)
          ∙ sym (next_asker asked at d w.if-at-gt0.true within)))
      | else-at-gt0 w ↦
          let none = w.if-at-gt0.false in
          c.in_ok-append_asker.ensures
          ∙ (ap (λ t. t ++ asker_text a) (ap (λ v. v.items) w.text-is ∙ c.askers.invariant)
          ∙ sym (first_asker asked at d (omega (arith, none)) within))
    ])

pub returns : goal.returns
returns c =
    let end = c.min-at-end.ensures in
    let last = c.askers-test.false in
    let within = c.askers.auto.at-end in
    c.in_ok-push-2.ensures.items ∙ ap (λ t. t ++ 10 ∷ [])
    (c.askers.invariant ∙ all_askers c.args.asked.now 10000 c.askers.at (omega (arith, end, last, within)))
