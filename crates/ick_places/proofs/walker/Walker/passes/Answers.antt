use Rattle.std.proofs.Common.{refl}
use Rattle.ick_source.proofs.SequenceFound.{word_is, word_is_not}
use Rattle.ick_places.proofs.TokenWalks.{passed, not_passed}
use Rattle.ick_places.proofs.walker.Walker.passes.Goals as goal

pub returns-in-Some : goal.returns-in-Some
returns-in-Some c =
    let is = word_is _ _ _ c.in-Some.ensures in
    record { passes = is; walks = passed _ _ _ refl (λ f. f) (λ f. refl) is; same = record { refused = refl; marks = refl } }

pub returns-in-None : goal.returns-in-None
returns-in-None c =
    let is = word_is_not _ _ c.in-None.ensures in
    record { passes = (is, refl); walks = not_passed _ _ is; same = record { refused = refl; marks = refl } }
