use Rattle.ick_stages.proofs.StageLaws.{stage_of}
use Rattle.ick_stages.specs.Left.{sorts_of}
use Rattle.ick_stages.specs.Steps.{made_of}
use Rattle.ick_syntax.specs.StatementTree.{statement_tree_of}
use Rattle.ick_stages.proofs.stages.append_stage.Goals as goal

pub returns-clause-stage : goal.returns-clause-stage
returns-clause-stage c =
    stage_of c.args.lowered.now c.args.traces.now c.args.layout c.args.asked.now c.args.n
    (statement_tree_of c.args.statement.now)
    c.args.placed.now c.args.work.now.draft c.append_steps.new.draft (made_of c.append_steps.new.makers)
    (sorts_of c.sort_all.new.self) c.is_shown-shown.ensures c.append_top_if.ensures c.are_both-lines.ensures
    c.in_ok-append_steps.ensures.steps c.instructions_of-kept.ensures c.in_ok-sort_all.ensures c.append_bottom_if.ensures
    c.are_both-traced.ensures c.in_ok-append_traces_if.ensures
