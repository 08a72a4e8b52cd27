use Rattle.std.proofs.Common.{◌+◌, map, drop, ap, sym, ◌∙◌}
use Rattle.std.specs.Prelude.{if◌then◌else◌}
use Rattle.ick_runtime.specs.Status.{is_abstained}
use Rattle.ick_states.specs.Hashed.{mix, mix_places}
use Rattle.ick_states.proofs.Mixing.{place_next, place_none}
use Rattle.ick_states.proofs.hashing.mix_abstained.Goals as goal

pub loop-at-preserved : goal.loop-at-preserved
loop-at-preserved c =
    let xs = c.args.statuses.now in
    let at = c.loop-at.at in
    let hash = c.loop-at.hash in
    let mixed = c.mix_if-hash.ensures ∙ ap (λ b. if b then mix hash at else hash) c.is_abstained.ensures in
    c.loop-at.invariant
    ∙ place_next is_abstained hash xs at c.index-statuses-at.result c.loop-at-test.true c.index-statuses-at.is
    ∙ ap (λ h. mix_places h (at + 1) (drop (at + 1) (map is_abstained xs))) (sym mixed)

pub returns-then-not-some_abstained : goal.returns-then-not-some_abstained
returns-then-not-some_abstained c =
    sym (place_none c.args.hash c.args.statuses.now (c.some_abstained.ensures c.if-not-some_abstained.true))
