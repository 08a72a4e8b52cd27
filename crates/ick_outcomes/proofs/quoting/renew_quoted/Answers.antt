use Rattle.std.proofs.Common.{arith}
use Rattle.ick_outcomes.proofs.QuotingLaws.{long_text, removable, renewed}
use Rattle.ick_outcomes.proofs.quoting.renew_quoted.Goals as goal

pub overflow_sub-open : goal.overflow_sub-open
overflow_sub-open c =
    let long = long_text c.args.last.now c.args.text.now.items c.same_bytes-same.result c.requires in
    omega (arith, long, c.len-open.ensures)

pub without-kept-requires : goal.without-kept-requires
without-kept-requires c =
    let long = long_text c.args.last.now c.args.text.now.items c.same_bytes-same.result c.requires in
    omega (arith, long, c.len-open.ensures)

pub remove-requires : goal.remove-requires
remove-requires c =
    let some = removable c.args.last.now _ c.args.text.now.items c.same_bytes-same.result c.without-kept.result _ _
    c.requires (omega (arith, c.without-kept.ensures, c.len-open.ensures)) c.truncate.ensures.items
    c.in_ok-append_quoted.ensures.ok in
    omega (arith, some)

pub returns : goal.returns
returns c =
    renewed c.args.last.now c.args.output.now c.args.text.now.items c.same_bytes-same.result c.without-kept.result
    _ _ _ c.requires c.same_bytes-same.ensures.same (omega (arith, c.without-kept.ensures, c.len-open.ensures))
    c.truncate.ensures.items c.in_ok-append_quoted.ensures.ok c.remove.ensures.items
