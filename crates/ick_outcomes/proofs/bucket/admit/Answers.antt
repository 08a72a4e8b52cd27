use Rattle.std.proofs.Common.{refl, rules, slice_index_or, subst}
use Rattle.ick_outcomes.specs.Accounts.{CanMerge}
use Rattle.ick_outcomes.specs.Seen.{pending_of}
use Rattle.ick_outcomes.proofs.Packing.{lesser_earlier, lesser_later}
use Rattle.ick_outcomes.proofs.Uses.{admits_at, joins_at, joins_new, kept_at}
use Rattle.ick_outcomes.proofs.bucket.admit.Goals as goal

pub returns-in_ok-merge-in-Some-clause-joins : goal.returns-in_ok-merge-in-Some-clause-joins
returns-in_ok-merge-in-Some-clause-joins g c =
    let seen = g.P.States.seen c.args.program.now in
    let nodes = c.args.bucket.now.nodes.items in
    joins_at seen (g.P.States.suits c.args.program.now) c.args.bucket.now _ c.in-Some.at c.args.node
    c.index_mut.result.now c.merge.new.one (search rules)
    (admits_at seen nodes c.in-Some.at c.args.node c.index_mut.result.now c.merge.new.one (search rules)
    (λ d. subst (λ z. CanMerge (pending_of seen (slice_index_or z c.in-Some.at d)) (pending_of seen c.args.node))
    c.deref.ensures.value (c.in-Some.ensures.same d))
    (search rules) (c.in_ok-merge-in-Some.ensures.merged seen))
    (search rules) c.in_ok-merge-in-Some.ensures.stays c.requires.level refl refl

pub returns-in_ok-note-in-None-clause-joins : goal.returns-in_ok-note-in-None-clause-joins
returns-in_ok-note-in-None-clause-joins g c =
    joins_new (g.P.States.seen c.args.program.now) (g.P.States.suits c.args.program.now) c.args.bucket.now _
    c.args.node c.requires.node c.requires.left c.requires.level refl
    c.in_ok-push-in-None.ensures.items

pub merge-requires-clause-kept : goal.merge-requires-clause-kept
merge-requires-clause-kept g c = λ e.
    lesser_earlier _ _ c.in-Some.kept
    (kept_at c.args.bucket.now.nodes.items _ c.in-Some.at c.index_mut.result.now c.args.node c.in-Some.kept
    c.deref.ensures.value (search rules) c.in-Some.ensures.kept)
    e

pub merge-requires-clause-given : goal.merge-requires-clause-given
merge-requires-clause-given g c = λ e.
    lesser_later _ _ c.in-Some.kept
    (kept_at c.args.bucket.now.nodes.items _ c.in-Some.at c.index_mut.result.now c.args.node c.in-Some.kept
    c.deref.ensures.value (search rules) c.in-Some.ensures.kept)
    e
