use Rattle.std.proofs.Common.{rules, ◌≡◌, ◌≢◌, ◌<◌, ◌++◌, ◌-◌, [], ◌==◌, length, take, ap, ◌∙◌, arith}
use Rattle.std.proofs.lemmas.Grind.{common_steps}
use Rattle.ick_devices.proofs.LineLaws.{one_line, line_at_end, line_in_block, more_so_far, no_end_more, none_ends}
use Rattle.ick_devices.proofs.LineLaws.{not_true, ok_same, some_bytes}
use Rattle.ick_devices.proofs.source_feed.SourceFeedFeed.line.Goals as goal

pub returns-then-count-eq0-clause-one : goal.returns-then-count-eq0-clause-one
returns-then-count-eq0-clause-one g c = λ _. one_line c.reads.target.items c.reads.invariant.no_end

pub returns-then-count-eq0-clause-some : goal.returns-then-count-eq0-clause-some
returns-then-count-eq0-clause-some g c = λ t e.
    let left = g.R.ByteSource.left in
    let bytes = c.reads.target.items in
    let none : left c.reads.self.source.now ≡ [] = search rules in
    let none_left : left c.read_in_line.new.self ≡ [] = grind (arith, common_steps) in
    let size : c.reads.target.len ≡ length bytes = omega (arith, c.reads.target.ok.0) in
    let some : bytes ≢ [] =
    some_bytes bytes c.is_empty.result (c.is_empty.ensures ∙ ap (λ k. k == 0) size)
    (not_true c.is_empty.result (ok_same _ _ e)) in
    let line = line_at_end _ bytes _ _ (c.reads.invariant.so_far t) none none_left c.reads.invariant.no_end some in
    rw (c.if-self.false, c.reads.invariant.given) (line.some, line.line, line.rest)

pub returns-then-block-count-eq10-clause-one : goal.returns-then-block-count-eq10-clause-one
returns-then-block-count-eq10-clause-one g c = λ _.
    let bytes = c.reads.target.items in
    let block = c.read_in_line.new.target in
    let none = no_end_more bytes block (c.in-Ok.count - 1) c.reads.invariant.no_end
    (λ k lt. c.in-Ok.ensures.line k (omega arith)) in
    rw c.in_ok-extend_from_slice.ensures.items (one_line (bytes ++ take (c.in-Ok.count - 1) block) none)

pub returns-then-block-count-eq10-clause-some : goal.returns-then-block-count-eq10-clause-some
returns-then-block-count-eq10-clause-some g c = λ t e.
    let some : 0 < c.in-Ok.count = omega (arith, c.if-count-eq0.false) in
    let line = line_in_block _ c.reads.target.items _ _ c.read_in_line.new.target c.in-Ok.count
    (c.reads.invariant.so_far t) (c.in-Ok.ensures.taken t) some (omega (arith, c.in-Ok.ensures.fits))
    c.if-block-count-eq10.true c.reads.invariant.no_end c.in-Ok.ensures.line in
    rw (c.if-self.false, c.reads.invariant.given)
    (line.some, c.in_ok-extend_from_slice.ensures.items ∙ line.line, line.rest)

pub reads-preserved : goal.reads-preserved
reads-preserved g c =
    let bytes = c.reads.target.items in
    let block = c.read_in_line.new.target in
    let none = none_ends block c.in-Ok.count c.in-Ok.ensures.line c.if-block-count-eq10.false in
    let items = c.in_ok-extend_from_slice-2.ensures.items in
    record {
      count = search rules;
      held = c.reads.invariant.held;
      given = c.reads.invariant.given;
      so_far = λ t. rw items
          (more_so_far _ bytes _ _ block c.in-Ok.count (c.reads.invariant.so_far t) (c.in-Ok.ensures.taken t));
      no_end = rw items (no_end_more bytes block c.in-Ok.count c.reads.invariant.no_end none);
    }
