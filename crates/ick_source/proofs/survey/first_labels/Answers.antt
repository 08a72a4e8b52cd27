use Rattle.std.specs.Prelude.{is_some}
use Rattle.std.specs.Borrow.{Bor}
use Rattle.std.proofs.Common.{None, Some, Option, List, ℕ, ◌+◌, ◌≡◌, true, false, ap, arith, refl, subst, sym, ◌∙◌}
use Rattle.std.proofs.lemmas.Bool.{false≢true}
use Rattle.std.proofs.lemmas.Map.Text.{btree_map_updates_str}
use Rattle.std.proofs.lemmas.Option.{slice_get_read}
use Rattle.ick_source.specs.Digits.{SpellsSome}
use Rattle.ick_source.specs.Seen.{Sees}
use Rattle.ick_source.specs.Surveys.{AreFirstLabels}
use Rattle.ick_source.proofs.CursorLemmas.{none_is}
use Rattle.ick_source.proofs.SeenLemmas.{found_at, zip_long}
use Rattle.ick_source.proofs.SurveyLemmas.{UpTo, labels_added, labels_done, labels_known, labels_pass}
use Rattle.ick_source.proofs.survey.first_labels.Goals as goal
use Rattle.ick_source.proofs.survey.first_labels.Goals.{in-Some+then-not-contains_key+in_ok-insert}
use Rattle.ick_source.proofs.survey.first_labels.Goals.{in-Some+else-not-contains_key, in_default}

pub loop-one-preserved : goal.loop-one-preserved
loop-one-preserved c = λ trees sees.
    let seen = c.args.seen.now in
    let i = c.loop-one.one-index in
    let one = c.one-item.result in
    let labels = c.loop-one.labels in
    let found = found_at i one sees (slice_get_read seen _ i one refl c.loop-one-test.true c.one-item.is) in
    let before = c.loop-one.invariant trees sees in
    let spelled : (o : Option (Bor (List ℕ))) → one.label ≡ o → SpellsSome o found.tree.label =
    λ o e. subst (λ o. SpellsSome o found.tree.label) e found.sees.label in
    elim c.match-one.branch [
      | in-Some+then-not-contains_key+in_ok-insert w ↦
          subst (AreFirstLabels (UpTo (i + 1)) trees) (sym w.labels-is)
          (labels_added trees i found.tree labels before found.there w.in-Some.label w.insert.new.self one.statement.number
          (spelled (Some w.in-Some.label) w.in-Some.is)
          (none_is _ (sym w.contains_key.ensures ∙ w.if-not-contains_key.true)) found.number
          (btree_map_updates_str w.in-Some.label.now labels w.insert.new.self (Some one.statement.number)
          w.in_ok-insert.ensures.updates))
      | in-Some+else-not-contains_key w ↦
          subst (AreFirstLabels (UpTo (i + 1)) trees) (sym w.labels-is)
          (labels_known trees i found.tree labels before found.there w.in-Some.label
          (spelled (Some w.in-Some.label) w.in-Some.is)
          (λ none. false≢true (sym (ap is_some none) ∙ sym w.contains_key.ensures
          ∙ w.if-not-contains_key.false)))
      | in_default w ↦
          subst (AreFirstLabels (UpTo (i + 1)) trees) (sym w.labels-is)
          (labels_pass trees i found.tree labels before found.there (spelled None w.in_default.is))
    ]

pub returns : goal.returns
returns c = λ trees sees.
    let long = zip_long Sees _ _ sees.each in
    let end = c.loop-one-test.false in
    labels_done trees c.loop-one.one-index c.loop-one.labels (omega (arith, long, end)) (c.loop-one.invariant trees sees)
