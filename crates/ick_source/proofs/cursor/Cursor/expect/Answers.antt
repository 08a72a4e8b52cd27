use Rattle.std.proofs.Common.{refl, sym, subst, ◌∙◌}
use Rattle.ick_syntax.specs.Clamped.{no_faults}
use Rattle.ick_source.specs.Cursors.{Refuses, left}
use Rattle.ick_source.specs.Wanted.{wanted_word}
use Rattle.ick_source.proofs.GrammarLaws.{word-found}
use Rattle.ick_source.proofs.StopLemmas.{halts_word}
use Rattle.ick_source.specs.Reading.{read}
use Rattle.ick_source.proofs.ClampedLemmas.{both-no}
use Rattle.ick_source.proofs.CursorLemmas.{does_find, does_refused}
use Rattle.ick_source.proofs.cursor.Cursor.expect.Goals as goal

pub returns-then-not-eats : goal.returns-then-not-eats
returns-then-not-eats c =
    let e = c.if-not-eats.ensures in
    let w = c.args.letters.now in
    let refused = rw c.of_word.ensures at c.refuse.ensures in
    does_refused _ _ _ (wanted_word w) (left c.args.self.now) _
    (subst (λ z. Refuses (wanted_word w) (left z) z c.refuse.new.self) e.1 refused)
    (λ f. halts_word w (left c.args.self.now) (λ after p. let g = sym (e.0 f) ∙ word-found p in absurd (cc)))

pub returns-else-not-eats : goal.returns-else-not-eats
unfolding read
returns-else-not-eats c =
    let e = c.if-not-eats.ensures in
    does_find _ _ _ (tt {0}) no_faults _ e.0 e.1 (rw e.2 refl) (e.3 ∙ sym (both-no _)) e.4
    (record { same = refl; none = refl })
