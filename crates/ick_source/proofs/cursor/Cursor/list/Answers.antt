use Rattle.ick_source.proofs.ListReadings.{list-start, list-more, list-follows, list-ends}
use Rattle.ick_source.proofs.RepeatedReadings.{repeats-start, repeats-more, repeats-shorter}
use Rattle.ick_source.proofs.cursor.Cursor.list.Goals as goal

pub more-init : goal.more-init
more-init g c = rw c.new-parts.ensures.items (repeats-start _ _ _ _ (list-start _))

pub more-preserved : goal.more-preserved
more-preserved g c =
    repeats-more _ _ _ _ _ _ _ _ _ _ _ _ _ c.requires c.more.invariant c.read-part.ensures c.keep.ensures
    (list-follows _ _ _ _ c.if-not-eats.ensures) (list-more _ _ _ _ _)

pub more-smaller : goal.more-smaller
more-smaller g c =
    repeats-shorter _ _ _ _ _ _ _ _ _ _ c.requires c.read-part.ensures c.keep.ensures
    (list-follows _ c.more.self _ _ c.if-not-eats.ensures)

pub returns-then-not-eats : goal.returns-then-not-eats
returns-then-not-eats g c =
    list-ends _ _ _ _ _ _ _ _ _ _ _ _ c.more.invariant c.read-part.ensures c.keep.ensures c.if-not-eats.ensures
