use Rattle.std.proofs.Common.{rules}
use Rattle.std.proofs.lemmas.List.Sorted.{answers_always}
use Rattle.ick_chain.proofs.LineLaws.{earlier, earlier-ranks, sorts_by_shown}
use Rattle.ick_chain.proofs.line.sort_lines.Goals as goal

pub returns : goal.returns
returns c =
    sorts_by_shown c.args.lines.now.items c.sort_by.new.self.items c.in_ok-sort_by.ensures.permutation
    (c.in_ok-sort_by.ensures.sorted earlier earlier-ranks (answers_always _ _ _ (λ f a r g h. search rules)))
