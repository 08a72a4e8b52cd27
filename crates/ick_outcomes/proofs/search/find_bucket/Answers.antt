use Rattle.std.proofs.Common.{◌≡◌, ◌≤◌, ◌∙◌, ap, arith, length, rules, true, false, ltb, subst, sym}
use Rattle.std.proofs.lemmas.List.Sorted.{IsPartitionedBy-ltb, IsPartitionPoint-from_clause}
use Rattle.std.specs.List.Sorted.{IsPartitionedBy, IsPartitionPoint}
use Rattle.ick_outcomes.specs.declared.bucket.Bucket.{Bucket}
use Rattle.ick_outcomes.proofs.Buckets.{rising-order}
use Rattle.ick_outcomes.proofs.Lists.{any_default}
use Rattle.ick_outcomes.proofs.Searching.{bucket_new}
use Rattle.ick_outcomes.proofs.search.find_bucket.Goals as goal
use Rattle.ick_outcomes.proofs.search.find_bucket.Goals.{else-at-len-via-then-at-len+else-index-left, else-at-len-via-else-at-len}

pub returns : goal.returns
returns g c =
    let bs = c.args.buckets.now.items in
    let at = c.partition_point-at.result in
    let left = c.args.left in
    let same = c.deref.ensures.value in
    let parted = IsPartitionedBy-ltb (λ b. b.left) bs left (rising-order 0 bs c.requires.rising) in
    let point = IsPartitionPoint-from_clause (λ b. ltb b.left left) c.deref.result.now at
    c.partition_point-at.ensures.partitioned
    (subst (λ zs. IsPartitionedBy (λ (b : Bucket g.row.S.Denot). ltb b.left left) zs) (sym same) parted)
    (λ a r q k. search rules) in
    bucket_new left at bs c.insert.new.self.items c.new.result c.new.ensures.left
    c.new.ensures.none c.in_ok-insert.ensures.items
    (subst (λ zs. at ≤ length zs) same c.partition_point-at.ensures.bound) c.requires.some
    (subst (λ zs. IsPartitionPoint (λ (b : Bucket g.row.S.Denot). ltb b.left left ≡ true)
    (λ (b : Bucket g.row.S.Denot). ltb b.left left ≡ false) zs at) same point)
    (λ d lt e. elim c.else-at-len.branch [
      | else-at-len-via-then-at-len+else-index-left w ↦ w.if-index-left.false
          (ap (λ b. b.left) (w.index.ensures ∙ any_default bs at w.index.result.now d lt) ∙ e)
      | else-at-len-via-else-at-len w ↦
          let no = w.if-at-len.false in let long = c.len.ensures in omega (arith, no, long, lt)
    ]) c.requires.rising
