use Rattle.std.proofs.Common.{◌∙◌, Err, ap, subst, sym}
use Rattle.ick_explorer.specs.Explorers.{explored}
use Rattle.ick_job.specs.JobEnd.{Answers}
use Rattle.ick_job.specs.declared.job_end.JobEnd.{JobEnd}
use Rattle.ick_cli.proofs.Listed.{is_listed, listing_comes, wrote_cut}
use Rattle.ick_cli.proofs.commands.runs.list_from.Goals as goal

pub refused-requires : goal.refused-requires
refused-requires g c =
    listing_comes _ _ c.args.count c.in-Err.error c.requires.small c.ranges.count.fits c.requires.fresh
    (λ full. c.write_runs.ensures.enough (c.in-Err.is ∙ ap (λ e. Err e) full))
    (λ failed. let some = c.write_runs.ensures.failed.0 (c.in-Err.is ∙ ap (λ e. Err e) failed) in
    let none = c.requires.unfailed in cc)

pub returns-clause-answer : goal.returns-clause-answer
returns-clause-answer g c = λ told s stands answer is.
    let old = explored c.args.explorer in
    let new = explored c.write_runs.new.explorer in
    let before = g.W.ByteSink.written c.args.writer.now in
    let after = g.W.ByteSink.written c.write_runs.new.writer in
    subst (λ (e : JobEnd). Answers answer e before after) (sym c.refused.ensures)
    (wrote_cut g.W.ByteSink.told s c.args.count old new before after c.in-Err.error answer told
    (λ full. c.write_runs.ensures.enough (c.in-Err.is ∙ ap (λ e. Err e) full))
    c.requires.small c.ranges.count.fits c.requires.fresh (λ cs listing. c.in-Err.ensures.listing s cs stands listing)
    (is_listed s c.args.count old answer stands is))
