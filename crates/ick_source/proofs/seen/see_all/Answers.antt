use Rattle.std.proofs.Common.{ap, arith, length}
use Rattle.std.proofs.lemmas.List.{length_push}
use Rattle.ick_source.proofs.BoundaryLemmas.{boundary_inside}
use Rattle.ick_source.proofs.SeenLemmas.{seen_more, seen_whole}
use Rattle.ick_source.proofs.StatementLemmas.{statement_longer, statement_start}
use Rattle.ick_source.proofs.seen.see_all.Goals as goal

pub overflow_cast-number : goal.overflow_cast-number
overflow_cast-number c =
    let read = c.statements.invariant in
    let inside = boundary_inside read.read.boundary in
    let len = c.len.ensures in
    omega (arith, inside, read.count, read.fits, len)

pub overflow_add-number : goal.overflow_add-number
overflow_add-number c =
    let read = c.statements.invariant in
    let inside = boundary_inside read.read.boundary in
    let len = c.len.ensures in
    omega (arith, inside, read.count, read.fits, len)

pub seen_at-requires : goal.seen_at-requires
seen_at-requires c = boundary_inside c.statements.invariant.read.boundary

pub returns-in_default-clause-seen : goal.returns-in_default-clause-seen
returns-in_default-clause-seen c = seen_whole c.statements.invariant.read (rw c.in_default.is at c.in_ok-next.ensures)

pub statements-smaller : goal.statements-smaller
statements-smaller c =
    let found = rw c.in-Some.is at c.in_ok-next.ensures in
    omega (arith, statement_longer found.0.1, statement_start found.0.1)

pub statements-preserved : goal.statements-preserved
statements-preserved c =
    let found = rw c.in-Some.is at c.in_ok-next.ensures in
    let read = c.statements.invariant in
    let items = c.in_ok-push.ensures.items in
    let len = c.len.ensures in
    let number = found.1 in
    let more = ap length items in
    let one = length_push c.statements.seen.items c.in-Some.next.value in
    record {
      read = seen_more read.read found.0.1 found.0.2 (omega (arith, number, len)) items;
      count = omega (arith, statement_longer found.0.1, read.count, more, one);
      fits = read.fits;
    }
