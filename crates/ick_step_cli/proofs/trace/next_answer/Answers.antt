use Rattle.ick_code.proofs.AskLaws.{chance_between}
use Rattle.ick_explorer.proofs.Walking.{asks_chance}
use Rattle.ick_machine.specs.Seen.{trailed_machine}
use Rattle.ick_step_cli.proofs.trace.next_answer.Goals as goal

pub choice-requires : goal.choice-requires
choice-requires c =
    let m = trailed_machine c.args.machine.now in
    let h = chance_between m.program m.state c.in-Choice.chance
    (asks_chance c.asks.result c.in-Choice.chance m c.in-Choice.is c.asks.ensures) in
    record { low = h.0; high = h.1 }
