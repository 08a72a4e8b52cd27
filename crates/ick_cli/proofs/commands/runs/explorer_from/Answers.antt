use Rattle.std.proofs.Common.{◌∙◌, Err, ap}
use Rattle.ick_cli.proofs.Listed.{is_unplaced}
use Rattle.ick_cli.proofs.commands.runs.explorer_from.Goals as goal

pub returns-in-Err-clause-err : goal.returns-in-Err-clause-err
returns-in-Err-clause-err g c =
    is_unplaced (g.M.Backtrack.seen c.args.machine) c.args.limit _ _ c.in-Err.error c.in-Some.is
    c.requires.unworn c.ranges.limit.fits
    (λ full. c.after.ensures.work_full.0 (c.in-Err.is ∙ ap (λ e. Err e) full))
    (λ none. c.after.ensures.no_such_run (c.in-Err.is ∙ ap (λ e. Err e) none))
    c.in-Err.ensures.errors
