use Rattle.std.proofs.Common.{◌-◌, Some, None, refl, sym, ap, ◌∙◌, arith}
use Rattle.ick_places.specs.Expressions.{level_marks, leaf_marks, element_marks, group_marks}
use Rattle.ick_places.proofs.WalkLemmas.{keeps_same, text-is, walks_as}
use Rattle.ick_places.specs.Walks.{left}
use Rattle.ick_source.specs.Expression.{level, further, is_array, begins_sub, subscripts}
use Rattle.ick_source.specs.Position.{left_at}
use Rattle.ick_places.proofs.ExpressionWalks.{walks_group, walks_element, walks_indexing, walks_single, walks_joined, walks_operand}
use Rattle.ick_places.proofs.ExpressionWalks.{walks_never, no_operand, no_expression, other_operand, shorter_by}
use Rattle.ick_places.proofs.RepeatedWalks.{turns_start, turns_more, turns_end}
use Rattle.ick_source.proofs.ExpressionReadings.{further-yes, further-array, further-no}
use Rattle.ick_places.proofs.walker.Walker.+expressions.Goals as goal
use Rattle.ick_places.proofs.walker.Walker.+expressions.Goals.{subscripts-then-not-passed-via-then-not-passed}
use Rattle.ick_places.proofs.walker.Walker.+expressions.Goals.{subscripts-then-not-passed-via-else-not-passed+then-is_array}
use Rattle.ick_places.proofs.walker.Walker.+expressions.Goals.{subscripts-then-not-passed-via-else-not-passed+else-is_array+then-not-may_begin_sub}

pub group-returns : goal.group-returns
group-returns t c =
    walks_group c.args.below c.args.delimiter _ _ _ _ _ _ _ c.args.from c.requires c.lead-inside.ensures c.unary.ensures
    c.expression.ensures c.close.ensures c.mark.ensures c.applied.ensures

pub element-returns : goal.element-returns
element-returns t c =
    walks_element c.args.below c.args.delimiter c.args.kind _ _ _ _ _ c.args.from c.requires c.number.ensures
    c.mark.ensures c.indexing.ensures c.mark-2.ensures

pub indexing-returns : goal.indexing-returns
indexing-returns t c = walks_indexing c.args.below c.args.delimiter _ _ _ c.passes.ensures.walks c.subscripts.ensures

pub subscripts-more-init : goal.subscripts-more-init
subscripts-more-init t c = turns_start _ _ _ _

pub operand-returns-in-Spot-clause-walks : goal.operand-returns-in-Spot-clause-walks
operand-returns-in-Spot-clause-walks t c =
    walks_operand c.args.limit c.args.delimiter _ _ _ _ _ _ (omega (arith, c.if-limit-eq0.false)) c.lead-begins.ensures
    c.in-Spot.is c.sign.ensures.walks c.leaf.ensures
    (ap (λ z. leaf_marks z (Some c.in-Spot.kind) (left_at z c.args.self.now.at)) (text-is c.sign.ensures.walks.keeps))

pub operand-returns-in-Spot-clause-shorter : goal.operand-returns-in-Spot-clause-shorter
operand-returns-in-Spot-clause-shorter t c e =
    shorter_by c.args.self.now c.sign.new.self _ _ _ c.lead-begins.ensures c.in-Spot.is (λ f. absurd cc) c.sign.ensures.goes c.leaf.ensures.keeps

pub operand-returns-in-Hash-clause-walks : goal.operand-returns-in-Hash-clause-walks
operand-returns-in-Hash-clause-walks t c =
    walks_operand c.args.limit c.args.delimiter _ _ _ _ _ _ (omega (arith, c.if-limit-eq0.false)) c.lead-begins.ensures
    c.in-Hash.is c.sign.ensures.walks c.leaf-in-Hash.ensures
    (ap (λ z. leaf_marks z None (left_at z c.args.self.now.at)) (text-is c.sign.ensures.walks.keeps))

pub operand-returns-in-Hash-clause-shorter : goal.operand-returns-in-Hash-clause-shorter
operand-returns-in-Hash-clause-shorter t c e =
    shorter_by c.args.self.now c.sign.new.self _ _ _ c.lead-begins.ensures c.in-Hash.is (λ f. absurd cc) c.sign.ensures.goes c.leaf-in-Hash.ensures.keeps

pub operand-returns-in-Array-clause-walks : goal.operand-returns-in-Array-clause-walks
operand-returns-in-Array-clause-walks t c =
    walks_operand c.args.limit c.args.delimiter _ _ _ _ _ _ (omega (arith, c.if-limit-eq0.false)) c.lead-begins.ensures
    c.in-Array.is c.sign.ensures.walks c.element.ensures
    (ap (λ z. element_marks z (level (c.args.limit - 1)) (level_marks z (c.args.limit - 1)) c.args.delimiter c.in-Array.kind (left_at z c.args.self.now.at)) (text-is c.sign.ensures.walks.keeps))

pub operand-returns-in-Array-clause-shorter : goal.operand-returns-in-Array-clause-shorter
operand-returns-in-Array-clause-shorter t c e =
    shorter_by c.args.self.now c.sign.new.self _ _ _ c.lead-begins.ensures c.in-Array.is (λ f. absurd cc) c.sign.ensures.goes c.element.ensures.keeps

pub operand-returns-in-Group-clause-walks : goal.operand-returns-in-Group-clause-walks
operand-returns-in-Group-clause-walks t c =
    walks_operand c.args.limit c.args.delimiter _ _ _ _ _ _ (omega (arith, c.if-limit-eq0.false)) c.lead-begins.ensures
    c.in-Group.is c.sign.ensures.walks c.group.ensures
    (ap (λ z. group_marks z (level (c.args.limit - 1)) (level_marks z (c.args.limit - 1)) c.in-Group.opened (left_at z c.args.self.now.at)) (text-is c.sign.ensures.walks.keeps))

pub operand-returns-in-Group-clause-shorter : goal.operand-returns-in-Group-clause-shorter
operand-returns-in-Group-clause-shorter t c e =
    shorter_by c.args.self.now c.sign.new.self _ _ _ c.lead-begins.ensures c.in-Group.is (λ f. absurd cc) c.sign.ensures.goes c.group.ensures.keeps

pub operand-returns-then-limit-eq0-clause-walks : goal.operand-returns-then-limit-eq0-clause-walks
operand-returns-then-limit-eq0-clause-walks t c =
    walks_never _ _ _ _ (keeps_same _) (no_operand c.args.limit c.args.delimiter c.if-limit-eq0.true _)

pub operand-returns-then-limit-eq0-clause-none : goal.operand-returns-then-limit-eq0-clause-none
operand-returns-then-limit-eq0-clause-none t c e to x p =
    no_operand c.args.limit c.args.delimiter c.if-limit-eq0.true _ to x p

pub operand-returns-in_default-clause-walks : goal.operand-returns-in_default-clause-walks
operand-returns-in_default-clause-walks t c =
    let d = c.in_default in
    walks_never _ _ _ _ c.sign.ensures.walks.keeps
    (other_operand c.args.limit c.args.delimiter _ _ (omega (arith, c.if-limit-eq0.false)) c.lead-begins.ensures
    d.not-Spot d.not-Hash d.not-Array d.not-Group)

pub operand-returns-in_default-clause-none : goal.operand-returns-in_default-clause-none
operand-returns-in_default-clause-none t c e to x p =
    let d = c.in_default in
    other_operand c.args.limit c.args.delimiter _ _ (omega (arith, c.if-limit-eq0.false)) c.lead-begins.ensures
    d.not-Spot d.not-Hash d.not-Array d.not-Group to x p

pub expression-returns-in_default : goal.expression-returns-in_default
expression-returns-in_default t c =
    walks_single c.args.limit c.args.delimiter _ _ _ c.lead.ensures c.in_default.not-Binary c.operand.ensures.walks

pub expression-returns-then-limit-eq0 : goal.expression-returns-then-limit-eq0
expression-returns-then-limit-eq0 t c =
    walks_never _ _ _ _ c.operand.ensures.walks.keeps (no_expression c.args.limit c.args.delimiter c.if-limit-eq0.true _)

pub expression-returns : goal.expression-returns
expression-returns t c =
    walks_joined c.args.limit c.args.delimiter _ _ _ _ _ _ _ _ _ (omega (arith, c.if-limit-eq0.false)) c.lead.ensures
    c.in-Binary.is refl c.operand.ensures.walks c.sign.ensures.walks c.sign.ensures.goes c.mark.ensures
    c.expression.ensures c.mark-2.ensures

pub subscripts-more-preserved : goal.subscripts-more-preserved
subscripts-more-preserved t c =
    let m = c.args.delimiter in
    turns_more _ _ (further m) c.args.self.now c.more.self _ _ c.more.invariant
    (walks_as _ _ _ _ _
    (ap (λ z. (level_marks z c.args.below).operands m (left c.more.self)) (text-is c.more.invariant.keeps))
    c.operand-passed.ensures.walks)
    (keeps_same _) (λ f. refl)
    (further-yes m _ _
    (ap is_array (sym c.lead-first.ensures) ∙ sym c.is_array.ensures ∙ c.if-is_array.false)
    (ap (begins_sub m) (sym c.lead.ensures) ∙ sym c.may_begin_sub.ensures ∙ c.if-not-may_begin_sub.false))

pub subscripts-more-smaller : goal.subscripts-more-smaller
subscripts-more-smaller t c = c.operand-passed.ensures.shorter c.if-not-passed.false

pub subscripts-returns-then-not-passed : goal.subscripts-returns-then-not-passed
unfolding subscripts
subscripts-returns-then-not-passed t c =
    let m = c.args.delimiter in
    turns_end _ _ (further m) c.args.self.now c.more.self _ c.more.invariant
    (walks_as _ _ _ _ _
    (ap (λ z. (level_marks z c.args.below).operands m (left c.more.self)) (text-is c.more.invariant.keeps))
    c.operand-passed.ensures.walks)
    (λ to x p. elim c.then-not-passed.branch [
      | subscripts-then-not-passed-via-then-not-passed w ↦
          absurd (c.operand-passed.ensures.none w.if-not-passed.true to x p)
      | subscripts-then-not-passed-via-else-not-passed+then-is_array w ↦
          further-array m _ _ (ap is_array (sym c.lead-first.ensures) ∙ sym w.is_array.ensures ∙ w.if-is_array.true)
      | subscripts-then-not-passed-via-else-not-passed+else-is_array+then-not-may_begin_sub w ↦
          further-no m _ _
          (ap (begins_sub m) (sym w.lead.ensures) ∙ sym w.may_begin_sub.ensures ∙ w.if-not-may_begin_sub.true)
    ])
