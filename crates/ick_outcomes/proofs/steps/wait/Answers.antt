use Rattle.std.proofs.Common.{ap, refl, sym, ◌∙◌}
use Rattle.ick_outcomes.proofs.Buckets.{get-at, rising-level}
use Rattle.ick_outcomes.proofs.Searching.{adds_node, on_both}
use Rattle.ick_outcomes.proofs.steps.wait.Goals as goal

pub admit-requires : goal.admit-requires
admit-requires g c κs =
    let at = c.in_ok-at.at in
    let bucket = c.index_mut.result.now in
    let buckets = c.find_bucket.new.buckets.items in (
      (refl, tt),
      (
        c.requires.node,
        (
          sym (ap (λ b. b.left) c.index_mut.ensures.value ∙ c.in_ok-at.ensures.there bucket),
          rising-level 0 buckets at bucket
              (get-at buckets at bucket c.in_ok-at.ensures.within c.index_mut.ensures.value) c.in_ok-at.ensures.rising,
        ),
      ),
    )

pub returns : goal.returns
returns g c =
    on_both c.admit.result
    (λ joins few. adds_node (g.P.States.seen c.args.program.now) (g.P.States.suits c.args.program.now) c.args.node
    c.in_ok-at.at c.index_mut.result.now c.admit.new.bucket c.find_bucket.new.buckets.items c.args.search.now _
    c.requires.filed c.in_ok-at.ensures c.index_mut.ensures.value joins few refl refl)
    c.admit.ensures.joins c.admit.ensures.few
