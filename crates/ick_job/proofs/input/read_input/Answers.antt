use Rattle.std.proofs.Common.{◌≡◌, ◌∙◌, ◌+◌, ◌<◌, ◌≤◌, ℕ, List, ap, arith, length, take}
use Rattle.std.proofs.lemmas.List.{length-take, take_all}
use Rattle.ick_job.specs.Input.{longest_input}
use Rattle.ick_job.proofs.Ends.{cut_unread}
use Rattle.ick_job.proofs.input.read_input.Goals as goal

-- a front that ends before its most bytes is all
all_of_front : (most : ℕ) (front whole : List ℕ) → front ≡ take (most + 1) whole → length front ≤ most →
    front ≡ whole
all_of_front most front whole is short =
    let size = ap (λ (t : List ℕ). length t) is ∙ length-take (most + 1) whole in
    is ∙ take_all (most + 1) whole (omega arith)

more_behind : (most : ℕ) (front whole : List ℕ) → front ≡ take (most + 1) whole → most < length front
    → most < length whole
more_behind most front whole is long =
    let size = ap (λ (t : List ℕ). length t) is ∙ length-take (most + 1) whole in omega arith

pub returns-in-Ok-clause-fits : goal.returns-in-Ok-clause-fits
unfolding longest_input
returns-in-Ok-clause-fits g c = omega (arith, c.len.ensures, c.if-len-le-LONGEST.true)

pub returns-in-Ok-clause-whole : goal.returns-in-Ok-clause-whole
returns-in-Ok-clause-whole g c = λ told.
    all_of_front 1048576 _ _ (c.in-Ok.ensures.front told) (omega (arith, c.len.ensures, c.if-len-le-LONGEST.true))

pub returns-in-Ok-2-clause-unread : goal.returns-in-Ok-2-clause-unread
unfolding longest_input
returns-in-Ok-2-clause-unread g c = λ told.
    more_behind 1048576 _ _ (c.in-Ok.ensures.front told) (omega (arith, c.len.ensures, c.if-len-le-LONGEST.false))

pub returns-in-Ok-clause-rest : goal.returns-in-Ok-clause-rest
unfolding longest_input
returns-in-Ok-clause-rest g c = λ told. c.in-Ok.ensures.rest told

pub returns-in-Err-clause-unread : goal.returns-in-Err-clause-unread
returns-in-Err-clause-unread g c = λ told. cut_unread _ c.in-Err.job_end c.in-Err.ensures.cut
