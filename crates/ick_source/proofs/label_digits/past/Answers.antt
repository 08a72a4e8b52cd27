use Rattle.std.proofs.Common.{sym, ◌∙◌}
use Rattle.std.proofs.lemmas.List.{append_cancel_left}
use Rattle.ick_source.proofs.label_digits.past.Goals as goal

pub returns-in-Some : goal.returns-in-Some
returns-in-Some c =
    λ to w. append_cancel_left c.args.word.now _ _ (sym c.in-Some.ensures.spelled ∙ w.spelled)
