use Rattle.std.proofs.Common.{arith}
use Rattle.std.proofs.lemmas.Bool.{leb-true}
use Rattle.ick_chain.proofs.WordLaws.{way_choice, way_plain}
use Rattle.ick_chain.proofs.words.is_way.Goals as goal

pub returns-then-fork-eq0 : goal.returns-then-fork-eq0
returns-then-fork-eq0 c =
    λ le. way_plain c.args.labels.now c.requires c.args.at c.args.fork c.label_at-from.result c.label_at-zero.result
    (rw c.deref.ensures.value at c.label_at-from.ensures) (rw c.deref-2.ensures.value at c.label_at-zero.ensures)
    (let lt = c.if-from-len.false in let l = c.len.ensures in omega (arith, lt, l)) c.if-fork-eq0.true
    (leb-true c.label_at-zero.result c.label_at-from.result le)

pub returns-then-is_within : goal.returns-then-is_within
returns-then-is_within c =
    λ yes. way_choice c.args.labels.now c.requires c.args.at c.args.fork c.label_at-from.result c.label_at-zero.result
    (rw c.deref.ensures.value at c.label_at-from.ensures) (rw c.deref-2.ensures.value at c.label_at-zero.ensures)
    (let lt = c.if-from-len.false in let l = c.len.ensures in omega (arith, lt, l)) c.label_at-one.result
    (rw c.deref-3.ensures.value at c.label_at-one.ensures)
    (λ none. let some = c.if-fork-eq0.false in absurd (omega (arith, some, none)))
    (rw c.deref-4.ensures.value at (c.is_within.ensures c.if-is_within.true))
    (rw c.deref-then-is_within.ensures.value at (c.is_within-then-is_within.ensures yes))
