use Rattle.ick_chain.proofs.Progressing.{shows_one}
use Rattle.ick_chain.specs.declared.progress.Report.TheVariants.{Over}
use Rattle.ick_chain.proofs.progress.end_reports.Goals as goal

pub returns : goal.returns
returns g c =
    shows_one c.args.progress.now c.show.new.self Over c.show.ensures.count c.show.ensures.same c.show.ensures.silent
    c.show.ensures.line
