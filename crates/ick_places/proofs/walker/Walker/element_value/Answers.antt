use Rattle.std.proofs.Common.{refl}
use Rattle.ick_places.proofs.BodyWalks.{walks_value}
use Rattle.ick_places.proofs.walker.Walker.element_value.Goals as goal

pub returns : goal.returns
returns c make =
    walks_value make c.args.self.now _ c.indices.new.self _ c.assigned.new.self c.append.new.self refl refl
    c.new.ensures.items refl c.indices.ensures refl refl refl refl c.assigned.ensures
    (rw c.deref.ensures.value at c.append.ensures)
