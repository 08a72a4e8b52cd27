use Rattle.std.proofs.Common.{◌≡◌, ℕ, ap, ◌∙◌, sym, arith, nat_cmp}
use Rattle.std.specs.BTreeMap.{get}
use Rattle.std.proofs.lemmas.Grind.{common_steps}
use Rattle.ick_code.specs.meaning.Control.{is_label}
use Rattle.ick_code.specs.Labels.{with_place}
use Rattle.ick_code.proofs.LabelLemmas.{noted_more, noted_all}
use Rattle.ick_code.proofs.labels.Labels.new.Goals.{in-Some+then-not-contains_key+in_ok-insert}
use Rattle.ick_code.proofs.labels.Labels.new.Goals.{in-Some+else-not-contains_key, in_default}
use Rattle.ick_code.proofs.labels.Labels.new.Goals as goal

pub loop-statement-preserved : goal.loop-statement-preserved
loop-statement-preserved c =
    let i = c.loop-statement.statement-index in
    let statement = c.statement-item.result in
    let noted : (q : ℕ) → get nat_cmp c.match-statement.places q
    ≡ with_place (get nat_cmp c.loop-statement.places q) (is_label q statement.label) c.loop-statement.past =
    elim c.match-statement.branch [
      | in-Some+then-not-contains_key+in_ok-insert w ↦ λ q. grind (arith, common_steps)
      | in-Some+else-not-contains_key w ↦ λ q. grind (arith, common_steps)
      | in_default w ↦ λ q. grind (arith, common_steps)
    ] in
    record {
      counted = omega arith;
      noted = λ q.
          noted q
          ∙ ap (λ o. with_place o (is_label q statement.label) c.loop-statement.past)
          (c.loop-statement.invariant.noted q)
          ∙ ap (with_place _ (is_label q statement.label)) c.loop-statement.invariant.counted
          ∙ sym (noted_more c.args.statements.now i statement c.loop-statement-test.true c.statement-item.is q);
    }

pub returns : goal.returns
returns c =
    λ label. noted_all c.args.statements.now c.loop-statement.statement-index c.loop-statement.past _ label
    c.loop-statement.auto.statement-index-end c.loop-statement-test.false c.loop-statement.invariant.counted
    (c.loop-statement.invariant.noted label)
