use Rattle.std.proofs.Common.{◌≡◌, ◌<◌, arith, length, vec_len}
use Rattle.ick_step_cli.proofs.TalkLaws.{line_at_break, line_at_end, nothing_left}
use Rattle.ick_step_cli.proofs.session.read_line.Goals as goal

pub returns-then-count-eq0-clause-line : goal.returns-then-count-eq0-clause-line
returns-then-count-eq0-clause-line g c = λ told some.
    let left = g.R.ByteSource.left in
    let h = c.loop-at.invariant in
    let size : vec_len c.loop-at.line ≡ length c.loop-at.line.items = omega (arith, c.loop-at.line.ok.0) in
    line_at_end (left c.args.reader.now) c.loop-at.line.items (left c.loop-at.reader) (left c.read.new.self)
    c.read.new.target c.in-Ok.count (vec_len c.loop-at.line) c.is_empty.result (h.left told) h.line c.if-count-eq0.true
    (c.in-Ok.ensures.end told c.if-count-eq0.true (omega arith)) (c.in-Ok.ensures.taken told) size
    c.is_empty.ensures some

pub returns-then-count-eq0-clause-end : goal.returns-then-count-eq0-clause-end
returns-then-count-eq0-clause-end g c = λ told none.
    let left = g.R.ByteSource.left in
    let h = c.loop-at.invariant in
    let size : vec_len c.loop-at.line ≡ length c.loop-at.line.items = omega (arith, c.loop-at.line.ok.0) in
    nothing_left (left c.args.reader.now) c.loop-at.line.items (left c.loop-at.reader) (left c.read.new.self)
    c.read.new.target c.in-Ok.count (vec_len c.loop-at.line) c.is_empty.result (h.left told) c.if-count-eq0.true
    (c.in-Ok.ensures.end told c.if-count-eq0.true (omega arith)) (c.in-Ok.ensures.taken told) size
    c.is_empty.ensures none

pub returns-then-byte-eq10-clause-line : goal.returns-then-byte-eq10-clause-line
returns-then-byte-eq10-clause-line g c = λ told _.
    let left = g.R.ByteSource.left in
    let h = c.loop-at.invariant in
    let some : 0 < c.in-Ok.count = omega (arith, c.if-count-eq0.false) in
    let one : length c.read.new.target ≡ 1 = omega (arith, c.read.auto.target) in
    line_at_break (left c.args.reader.now) c.loop-at.line.items (left c.loop-at.reader) (left c.read.new.self)
    c.read.new.target c.in-Ok.count _ (h.left told) h.line some one c.if-byte-eq10.true (c.in-Ok.ensures.taken told)
