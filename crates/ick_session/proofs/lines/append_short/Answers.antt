use Rattle.ick_inspect.proofs.AddLaws.{then}
use Rattle.ick_session.specs.Session.{seen}
use Rattle.ick_session.proofs.AnswerLaws.{short_moved, short_still}
use Rattle.ick_session.proofs.lines.append_short.Goals as goal

pub returns-then-not-moves : goal.returns-then-not-moves
returns-then-not-moves c =
    short_still c.args.moves (seen c.args.session.now) c.args.out.now c.push.new.self c.if-not-moves.true c.push.ensures

pub returns : goal.returns
returns c =
    short_moved c.args.moves (seen c.args.session.now) c.args.out.now c.push-3.new.self _ c.if-not-moves.false
    c.steps.ensures (then (then c.push-2.ensures c.push_decimal.ensures) c.push-3.ensures)
