use Rattle.std.proofs.Common.{◌≡◌, ◌<◌, ap, arith, length}
use Rattle.std.specs.Prelude.{decimal, reverse}
use Rattle.ick_session.specs.Changes.{newest_line}
use Rattle.ick_inspect.proofs.AddLaws.{same, then}
use Rattle.ick_session.proofs.ChangeLaws.{newest_more, none_newest}
use Rattle.ick_session.proofs.changes.append_newest.Goals as goal

pub loop-back-init : goal.loop-back-init
loop-back-init c = same (none_newest c.args.word.now (reverse c.args.addresses.now)) c.push.ensures

pub loop-back-preserved : goal.loop-back-preserved
loop-back-preserved c =
    let low : c.loop-back.back < length c.args.addresses.now = omega arith in
    same (newest_more c.args.word.now c.args.addresses.now c.loop-back.back low)
    (then c.loop-back.invariant (then c.push-in-loop-back.ensures
    (same (ap decimal c.from.ensures) c.push_decimal.ensures)))

pub returns : goal.returns
returns c =
    let all : c.loop-back.back ≡ c.args.count = omega arith in
    same (ap (newest_line c.args.word.now (reverse c.args.addresses.now)) all)
    (then c.loop-back.invariant c.push-2.ensures)
