use Rattle.std.proofs.Common.{◌∙◌, ap, refl, arith, sym}
use Rattle.ick_source.specs.declared.cursor.Cursor.{Cursor}
use Rattle.ick_source.specs.declared.verb.Verb.TheVariants.{Forget}
use Rattle.ick_source.specs.BodyGrammar.{all_verbs, verbs}
use Rattle.ick_source.specs.declared.wanted.Wanted.TheVariants.{Body}
use Rattle.ick_source.specs.Verb.{verb_word}
use Rattle.ick_source.proofs.CursorLemmas.{none_is}
use Rattle.ick_source.proofs.SequenceFound.{word_is, word_is_not}
use Rattle.ick_source.proofs.WordReadings.{passed, does_among, among_refused}
use Rattle.ick_source.proofs.cursor.Cursor.verb.Goals as goal

pub loop-verb-preserved : goal.loop-verb-preserved
loop-verb-preserved c =
    let before = c.loop-verb.invariant in (
      before.0,
      passed verb_word all_verbs _ Forget _ _ _ before.0 c.word.ensures
          (λ e. word_is_not _ _ c.in_default.ensures) before.1,
    )

pub returns-in-Some : goal.returns-in-Some
unfolding verbs
returns-in-Some c =
    let before = c.loop-verb.invariant in
    let fine = ap (λ (z : Cursor). z.refusal) before.0 ∙ none_is _ (sym c.is_some.ensures ∙ c.if-is_some.false) in
    does_among Body verb_word all_verbs _ Forget _ _ _ _ _ (let passed = c.loop-verb-test.true in omega arith) before.0 c.word.ensures
    (fine, fine, word_is _ _ _ c.in-Some.ensures, refl, refl) before.1 (record { same = refl; none = refl })

pub returns : goal.returns
unfolding verbs
returns c =
    let before = c.loop-verb.invariant in
    among_refused Body verb_word all_verbs Forget _ _ _ _ refl before.0 c.refuse.ensures
    (λ fine k low. let passed = c.loop-verb-test.false in before.1 fine k (omega arith))
