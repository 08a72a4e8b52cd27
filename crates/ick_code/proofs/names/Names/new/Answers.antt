use Rattle.std.proofs.Common.{sym, ap, ◌∙◌}
use Rattle.ick_code.specs.Names.{found}
use Rattle.ick_code.proofs.SlotLemmas.{index_none, none_once, none_short}
use Rattle.ick_code.proofs.names.Names.new.Goals as goal

pub invariant_of-result : goal.invariant_of-result
invariant_of-result c = record {
  index =
      λ name. index_none c.new-2.result c.new-2.ensures.empty name
      ∙ ap (λ l. found l name) (sym c.new.ensures.items);
  once = none_once _ c.new.ensures.items;
  short = none_short _ c.new.ensures.items;
}
