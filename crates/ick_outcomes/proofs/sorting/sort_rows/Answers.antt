use Rattle.std.proofs.Common.{rules}
use Rattle.std.proofs.lemmas.List.Sorted.{answers_always}
use Rattle.ick_outcomes.proofs.OrderedRows.{earlier, earlier-ranks, sorts_by_first}
use Rattle.ick_outcomes.proofs.sorting.sort_rows.Goals as goal

pub returns : goal.returns
returns c =
    sorts_by_first c.args.rows.now.items c.sort_by.new.self.items c.in_ok-sort_by.ensures.permutation
    (c.in_ok-sort_by.ensures.sorted earlier earlier-ranks (answers_always _ _ _ (λ f a r g h. search rules)))
