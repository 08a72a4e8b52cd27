use Rattle.std.proofs.Common.{ap, arith}
use Rattle.ick_source.specs.Grammar.{separated, separator}
use Rattle.ick_source.proofs.GrammarLaws.{past_word-is}
use Rattle.ick_source.proofs.TokenShorter.{word-takes}
use Rattle.ick_places.specs.Bodies.{kind_of, list_marks}
use Rattle.ick_places.specs.Walks.{left}
use Rattle.ick_places.proofs.WalkLemmas.{text-is, walks_as, walks_stay}
use Rattle.ick_places.proofs.RepeatedWalks.{turns_start, turns_more, turns_end}
use Rattle.ick_places.proofs.walker.Walker.list.Goals as goal

pub more-init : goal.more-init
more-init c = turns_start _ _ _ _

pub more-preserved : goal.more-preserved
more-preserved c =
    let p = c.if-not-passes.ensures in
    turns_more _ _ (separator c.args.separator.now) c.args.self.now c.more.self c.member.new.self c.passes.new.self
    c.more.invariant
    (walks_as _ _ _ _ _
    (ap (λ z. (kind_of c.args.member).marks z (left c.more.self)) (text-is c.more.invariant.keeps)) c.member.ensures)
    p.walks.keeps (λ f. p.same.marks) p.passes

pub more-smaller : goal.more-smaller
more-smaller c =
    let p = c.if-not-passes.ensures in
    omega (
      arith,
      c.member.ensures.keeps.within,
      word-takes c.requires (record { spelled = past_word-is c.args.separator.now _ _ p.passes }),
    )

pub returns-then-not-passes : goal.returns-then-not-passes
unfolding separated list_marks
returns-then-not-passes c =
    let p = c.if-not-passes.ensures in
    walks_stay _ c.args.self.now c.member.new.self c.passes.new.self _
    (turns_end _ _ (separator c.args.separator.now) c.args.self.now c.more.self c.member.new.self c.more.invariant
    (walks_as _ _ _ _ _
    (ap (λ z. (kind_of c.args.member).marks z (left c.more.self)) (text-is c.more.invariant.keeps)) c.member.ensures)
    (λ to x s. p.passes.0)) p.walks.keeps p.passes.1 (λ f. p.same.marks)
