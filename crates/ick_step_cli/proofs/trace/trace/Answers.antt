use Rattle.std.proofs.Common.{subst}
use Rattle.ick_code.specs.Compiled.{IsCompiled}
use Rattle.ick_step_cli.proofs.TraceLaws.{on_err, traced_all, traced_cut}
use Rattle.ick_step_cli.proofs.trace.trace.Goals as goal

pub returns-in_err-flush-clause-cut : goal.returns-in_err-flush-clause-cut
returns-in_err-flush-clause-cut g c = λ told.
    let short = c.in_err-flush.ensures.cut told in
    on_err _ (traced_cut _ _ _ _ _ _ _ _ _ _ _ short.0 c.in_ok-stopped.ensures.traces c.append_here.ensures
    (subst (λ p. IsCompiled p c.args.code.now) c.requires.code c.law.ensures) told short.1 short.2)

pub returns-clause-traces : goal.returns-clause-traces
returns-clause-traces g c = λ told.
    let all = c.in_ok-flush.ensures.all told in
    traced_all _ _ _ _ _ _ _ _ _ _ _ c.in_ok-stopped.ensures.traces c.append_here.ensures told all.0 all.1
