-- What was kept of a name.
use Rattle.std.specs.Prelude.{◌≡◌}
use Rattle.ick_syntax.specs.declared.tree.Name.{Name}
use Rattle.ick_code.specs.meaning.State.{State}
use Rattle.ick_session.specs.Changes.{Had, had_at}
use Rattle.ick_session.specs.declared.name_snapshot.NameSnapshot.{NameSnapshot}

abbrev pub had : NameSnapshot → Had
had h = record {
  number = h.number;
  ignored = h.ignored;
  numbers = h.numbers;
  arrays = h.arrays;
  dimensions = h.dimensions.items;
  elements = h.elements.items;
}

-- what a state has at a name was kept
pub record Keeps (h : NameSnapshot) (s : State) (name : Name) : Type 0 where
  pub name_is : h.name ≡ name
  pub had_is : had h ≡ had_at s name
