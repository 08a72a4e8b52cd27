use Rattle.ick_chain.specs.declared.progress.Report.TheVariants.{Primes}
use Rattle.ick_chain.proofs.Progressing.{shows_none, shows_one}
use Rattle.ick_chain.proofs.progress.show_primes.Goals as goal

pub returns-then-number-eq0 : goal.returns-then-number-eq0
returns-then-number-eq0 g c =
    shows_one c.args.progress.now c.show.new.self (Primes c.args.primes) c.show.ensures.count c.show.ensures.same c.show.ensures.silent
    c.show.ensures.line

pub returns-else-number-eq0 : goal.returns-else-number-eq0
returns-else-number-eq0 g c = shows_none c.args.progress.now
