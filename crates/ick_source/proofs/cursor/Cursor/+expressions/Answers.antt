use Rattle.std.proofs.Common.{◌≡◌, ◌-◌, refl, sym, ap, ◌∙◌, arith, subst}
use Rattle.ick_syntax.proofs.TreeLemmas.{tree_of-element}
use Rattle.ick_source.specs.Expression.{groups, elements, indexing, subscripts, level, Sized}
use Rattle.ick_syntax.specs.Tree.{Tree}
use Rattle.ick_syntax.specs.Clamped.{faults_of}
use Rattle.ick_source.specs.Position.{left_at}
use Rattle.ick_source.specs.Expression.{begins_sub}
use Rattle.ick_source.specs.Expression.{is_array}
use Rattle.ick_source.proofs.ExpressionReadings.{further-array, further-no}
use Rattle.ick_source.proofs.ClampedLemmas.{both-no}
use Rattle.ick_source.proofs.CursorLemmas.{does_then, does_decided, does_next, does_yield, does_nothing, some_is}
use Rattle.ick_source.proofs.ExpressionReadings.{does_make, group_sized, element_sized, joined_sized, does_operand}
use Rattle.ick_source.proofs.ExpressionReadings.{other_operand, no_level, does_expression, right_other, right_joined, right_high}
use Rattle.ick_source.proofs.ExpressionReadings.{along-start, along-more, again_by}
use Rattle.ick_source.proofs.RepeatedReadings.{repeats-start, repeats-more, repeats-shorter, repeats-ends}
use Rattle.ick_source.proofs.GrammarShorter.{level-shortens}
use Rattle.ick_source.proofs.cursor.Cursor.+expressions.Goals as goal
use Rattle.ick_source.proofs.cursor.Cursor.+expressions.Goals.{subscripts-then-is_array-via-then-is_array}
use Rattle.ick_source.proofs.cursor.Cursor.+expressions.Goals.{subscripts-then-is_array-via-else-is_array+then-not-may_begin_sub}

pub group-returns-clause-reads : goal.group-returns-clause-reads
unfolding groups
group-returns-clause-reads t c =
    let made = c.made-value.ensures in
    let close = c.close.ensures in
    let inner = c.expression-inner.ensures.reads in
    does_then _ _ _ _ _ _ _ c.unary-op.ensures (λ u e. made.stays u (close.stays u (inner.stays u e)))
    (λ o f p. does_then _ _ _ _ _ _ _ inner (λ u e. made.stays u (close.stays u e))
    (λ e k q. does_then _ _ _ _ _ _ _ close made.stays
    (λ x j r. does_make _ _ _ _ _ _ _ made c.applied.ensures
    (λ t. group_sized _ _ _ _ _ _ _ _ p.same t q p.none r.none))))

pub element-returns-clause-reads : goal.element-returns-clause-reads
unfolding elements
element-returns-clause-reads t c =
    let all = c.indexing-all.ensures.reads in
    does_then _ _ _ _ _ _ _ c.number-number.ensures all.stays
    (λ n f p. does_then _ _ _ _ _ _ _ all (λ u e. e)
    (λ ts j r. does_yield _ _ _
    (element_sized _ _ _ c.indexing-all.result _ _ _ _ p.is_clamped p.is_faults r
    (tree_of-element (record { array = _; subs = c.indexing-all.result.value })))))

pub indexing-returns-clause-reads : goal.indexing-returns-clause-reads
unfolding indexing
indexing-returns-clause-reads t c =
    does_decided _ _ _ _ _ _ _ c.expect.ensures c.subscripts.ensures.reads.stays c.subscripts.ensures.reads

pub operand-returns-in-Spot-clause-reads : goal.operand-returns-in-Spot-clause-reads
operand-returns-in-Spot-clause-reads t c =
    let s = c.leaf.ensures.reads in
    does_operand _ (c.args.limit - 1) _ _ _ _ _ _ _ (omega arith) c.sign.ensures s.stays c.in-Spot.is s

pub operand-returns-in-Hash-clause-reads : goal.operand-returns-in-Hash-clause-reads
operand-returns-in-Hash-clause-reads t c =
    let s = c.leaf-in-Hash.ensures.reads in
    does_operand _ (c.args.limit - 1) _ _ _ _ _ _ _ (omega arith) c.sign.ensures s.stays c.in-Hash.is s

pub operand-returns-in-Array-clause-reads : goal.operand-returns-in-Array-clause-reads
operand-returns-in-Array-clause-reads t c =
    let s = c.element.ensures.reads in
    does_operand _ (c.args.limit - 1) _ _ _ _ _ _ _ (omega arith) c.sign.ensures s.stays c.in-Array.is s

pub operand-returns-in-Group-clause-reads : goal.operand-returns-in-Group-clause-reads
operand-returns-in-Group-clause-reads t c =
    let s = c.group.ensures.reads in
    does_operand _ (c.args.limit - 1) _ _ _ _ _ _ _ (omega arith) c.sign.ensures s.stays c.in-Group.is s

pub operand-returns-in_default-clause-reads : goal.operand-returns-in_default-clause-reads
operand-returns-in_default-clause-reads t c =
    let d = c.in_default in
    other_operand _ (c.args.limit - 1) _ _ _ _ _ _ _ (omega arith) c.sign.ensures
    (λ text. ap (λ t. left_at t.now c.args.self.now.at) text) c.refuse_at.ensures d.not-Spot d.not-Hash d.not-Array d.not-Group

pub operand-returns-then-limit-eq0-clause-reads : goal.operand-returns-then-limit-eq0-clause-reads
operand-returns-then-limit-eq0-clause-reads t c = no_level _ _ _ _ _ c.if-limit-eq0.true c.refuse.ensures

pub expression-returns-in_default : goal.expression-returns-in_default
expression-returns-in_default t c =
    record {
      reads =
          does_expression _ _ _ _ _ _ _ c.operand-left.ensures.reads (λ u e. e)
          (λ h a f e p. does_then _ _ _ _ _ _ _ (does_next _ _ c.lead.ensures.next) (λ u e. e)
          (λ l k q. right_other (level h) h c.args.delimiter a l _ _ _
          (λ o e. c.in_default.not-Binary o (sym q.same ∙ e))
          (does_yield _ _ _ (record {
            is_clamped = p.is_clamped;
            is_faults = rw (q.none, p.is_faults) (both-no (faults_of a.value));
          }))));
      low = c.operand-left.ensures.low;
    }

pub expression-returns-then-left-limit-clause-reads : goal.expression-returns-then-left-limit-clause-reads
expression-returns-then-left-limit-clause-reads t c =
    does_expression _ _ _ _ _ _ _ c.operand-left.ensures.reads c.refuse.ensures.stays
    (λ h a f e p. does_then _ _ _ _ _ _ _ (does_next _ _ c.lead.ensures.next) c.refuse.ensures.stays
    (λ l k q. right_high h c.args.delimiter a l c.in-Binary.op _ _ _ (q.same ∙ c.in-Binary.is)
    (omega (arith, e, c.if-left-limit.true, ap (λ (z : Sized Tree). z.height) p.is_clamped)) c.refuse.ensures))

pub expression-returns-then-is_some-clause-reads : goal.expression-returns-then-is_some-clause-reads
expression-returns-then-is_some-clause-reads t c =
    let sign = c.sign.ensures in
    let refused = some_is _ (sym c.is_some.ensures ∙ c.if-is_some.true) in
    does_expression _ _ _ _ _ _ _ c.operand-left.ensures.reads
    (λ u e. c.expression-right.ensures.reads.stays u (sign.stays u e))
    (λ h a f e p.
    let below : c.args.limit - 1 ≡ h = omega (arith, e) in
    let right = rw below at c.expression-right.ensures.reads in
    does_then _ _ _ _ _ _ _ (does_next _ _ c.lead.ensures.next) (λ u e. right.stays u (sign.stays u e))
    (λ l g q. right_joined h c.args.delimiter a l c.in-Binary.op _ _ _ (q.same ∙ c.in-Binary.is)
    (omega (arith, e, c.if-left-limit.false, ap (λ (z : Sized Tree). z.height) p.is_clamped))
    (does_then _ _ _ _ _ _ _ sign right.stays
    (λ s i r. does_then _ _ _ _ _ _ _ right (λ u e. e)
    (λ b k w. does_nothing _ _ _ refused.0 refused.1)))))

pub expression-returns-clause-reads : goal.expression-returns-clause-reads
expression-returns-clause-reads t c =
    let made = c.made-value.ensures in
    let sign = c.sign.ensures in
    does_expression _ _ _ _ _ _ _ c.operand-left.ensures.reads
    (λ u e. made.stays u (c.expression-right.ensures.reads.stays u (sign.stays u e)))
    (λ h a f e p.
    let below : c.args.limit - 1 ≡ h = omega (arith, e) in
    let right = rw below at c.expression-right.ensures.reads in
    does_then _ _ _ _ _ _ _ (does_next _ _ c.lead.ensures.next)
    (λ u e. made.stays u (right.stays u (sign.stays u e)))
    (λ l g q. right_joined h c.args.delimiter a l c.in-Binary.op _ _ _ (q.same ∙ c.in-Binary.is)
    (omega (arith, e, c.if-left-limit.false, ap (λ (z : Sized Tree). z.height) p.is_clamped))
    (does_then _ _ _ _ _ _ _ sign (λ u e. made.stays u (right.stays u e))
    (λ s i r. does_then _ _ _ _ _ _ _ right made.stays
    (λ b k w. does_make _ _ _ _ _ _ _ made c.joined.ensures
    (λ t. joined_sized _ _ _ _ _ _ _ _ _ _ _ c.max-height.ensures p q.none r.none w t))))))

pub subscripts-more-init : goal.subscripts-more-init
subscripts-more-init t c =
    rw c.new-value.ensures.items (omega arith, repeats-start _ _ _ _ along-start)

pub subscripts-more-preserved : goal.subscripts-more-preserved
subscripts-more-preserved t c =
    let one = c.operand-one.ensures in
    let keep = c.keep.ensures in
    let again = again_by c.args.delimiter _ _ _ _ one.reads keep c.lead-first.ensures.next c.lead.ensures.next c.lead.ensures.other
    (sym c.is_array.ensures ∙ c.if-is_array.false) (sym c.may_begin_sub.ensures ∙ c.if-not-may_begin_sub.false) in
    rw c.max-height.ensures (
      omega (arith, c.more.invariant.0, one.low),
      repeats-more _ _ _ _ _ _ _ _ _ _ _ _ _ ((level-shortens c.args.below).0 c.args.delimiter) c.more.invariant.1
          one.reads keep again (λ ts f x k p q are. along-more _ _ c.operand-one.result _ ts x f k p q are),
    )

pub subscripts-more-smaller : goal.subscripts-more-smaller
subscripts-more-smaller t c =
    let one = c.operand-one.ensures in
    let keep = c.keep.ensures in
    let again = again_by c.args.delimiter _ _ _ _ one.reads keep c.lead-first.ensures.next c.lead.ensures.next c.lead.ensures.other
    (sym c.is_array.ensures ∙ c.if-is_array.false) (sym c.may_begin_sub.ensures ∙ c.if-not-may_begin_sub.false) in
    repeats-shorter _ _ _ _ _ _ _ _ _ _ ((level-shortens c.args.below).0 c.args.delimiter) one.reads keep again

pub subscripts-returns-then-is_array-clause-reads : goal.subscripts-returns-then-is_array-clause-reads
unfolding subscripts
subscripts-returns-then-is_array-clause-reads t c =
    let one = c.operand-one.ensures in
    rw c.max-height.ensures
    (repeats-ends _ _ _ _ _ _ _ _ _ _ _ _ c.more.invariant.1 one.reads c.keep.ensures
    (λ started fine. elim c.then-is_array.branch [
      | subscripts-then-is_array-via-then-is_array w ↦
          further-array _ _ _ (ap is_array (sym (c.lead-first.ensures.next started)) ∙ sym c.is_array.ensures ∙ w.if-is_array.true)
      | subscripts-then-is_array-via-else-is_array+then-not-may_begin_sub w ↦
          further-no _ _ _ (ap (begins_sub c.args.delimiter) (sym (w.lead.ensures.next fine)) ∙ sym w.may_begin_sub.ensures ∙ w.if-not-may_begin_sub.true)
    ])
    (λ ts f x k p q are. along-more _ _ c.operand-one.result _ ts x f k p q are))
