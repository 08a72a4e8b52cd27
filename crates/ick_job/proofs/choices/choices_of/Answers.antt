use Rattle.std.proofs.Common.{◌∙◌, Err, ap}
use Rattle.ick_job.proofs.Unread.{ends_unread, named, text_error_comes, unread_memory}
use Rattle.ick_job.proofs.choices.choices_of.Goals as goal

pub refused-requires : goal.refused-requires
refused-requires c = text_error_comes c.in-Err.error c.in-Err.ensures.errors

pub returns-in-Err-clause-err : goal.returns-in-Err-clause-err
returns-in-Err-clause-err c =
    ends_unread _ _ _ c.in-Err.error _ c.refused.ensures (named _ _ _ _ c.in-Some.is c.as_bytes.ensures.value)
    (λ bad. c.from_text.ensures.bad_cursor (c.in-Err.is ∙ ap (λ e. Err e) bad))
    (λ long. c.from_text.ensures.no_such_run (c.in-Err.is ∙ ap (λ e. Err e) long))
    c.in-Err.ensures.errors

pub returns-in-Err-clause-memory : goal.returns-in-Err-clause-memory
returns-in-Err-clause-memory c =
    unread_memory _ _ _ c.in-Err.error _ c.refused.ensures (named _ _ _ _ c.in-Some.is c.as_bytes.ensures.value)
    (λ memory. c.from_text.ensures.no_memory (c.in-Err.is ∙ ap (λ e. Err e) memory))
    c.in-Err.ensures.errors
