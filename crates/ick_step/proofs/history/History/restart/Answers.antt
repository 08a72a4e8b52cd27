use Rattle.std.proofs.Common.{arith}
use Rattle.ick_step.specs.Histories.{history}
use Rattle.ick_step.proofs.Results.{no_memory_left}
use Rattle.ick_step.proofs.history.History.restart.Goals as goal

pub returns-clause-errors : goal.returns-clause-errors
returns-clause-errors g c =
    no_memory_left c.back.result (history c.args.self.now) (history c.back.new.self) c.len-steps.result
    c.back.ensures.errors c.back.ensures.no_memory (omega (arith, c.len-steps.ensures, c.args.self.now.answers.ok.0))
