use Rattle.std.proofs.Common.{◌∙◌}
use Rattle.ick_backtrack.specs.Asked.{finish_of}
use Rattle.ick_numbers.specs.Values.{natural}
use Rattle.ick_chain.proofs.RowLaws.{row_weight}
use Rattle.ick_chain.proofs.rows.ended_row.Goals as goal

pub returns-clause-weighs : goal.returns-clause-weighs
returns-clause-weighs g c =
    row_weight (g.P.States.text c.args.program.now) (g.P.States.seen c.args.program.now c.args.state.now).state
    (finish_of c.args.end) c.in_ok-output.output.items c.in_ok-end.end.items (natural c.in_ok-weight.weight)
    (natural c.args.weight.now) c.requires (c.in_ok-output.ensures.items ∙ c.output.ensures) c.in_ok-end.ensures
    c.in_ok-weight.ensures
