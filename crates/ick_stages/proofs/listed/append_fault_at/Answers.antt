use Rattle.std.proofs.Common.{◌≡◌, ◌<◌, ◌-◌, ℕ, None, Some, [], arith, get_or, length, subst}
use Rattle.std.proofs.lemmas.Option.{slice_get-get_or}
use Rattle.std.specs.Prelude.{slice_get}
use Rattle.ick_inspect.proofs.AddLaws.{nothing}
use Rattle.ick_stages.specs.Faults.{fault_line}
use Rattle.ick_stages.specs.Listed.{nowhere, texts_seen, there}
use Rattle.ick_stages.specs.Placed.{ArePlaces}
use Rattle.ick_stages.specs.Starts.{Starts}
use Rattle.ick_stages.proofs.LineLaws.{none_at}
use Rattle.ick_syntax.specs.StatementTree.{statement_tree_of}
use Rattle.ick_stages.proofs.listed.append_fault_at.Goals as goal

pub returns-then-index-seen : goal.returns-then-index-seen
returns-then-index-seen c =
    let past = none_at c.args.seen.now c.saturating_sub-index.result c.if-index-seen.true in
    ([], nowhere (subst (λ k. slice_get c.args.seen.now k ≡ None) c.saturating_sub-index.ensures past), nothing _)

pub place_statement-requires : goal.place_statement-requires
place_statement-requires c =
    let starts = c.args.starts.now in
    let index = c.saturating_sub-index.result in
    let low : index < length starts = omega (arith, c.requires.count, c.if-index-seen.false) in
    c.requires.within index (get_or starts index 0) (slice_get-get_or starts index 0 low)

pub returns : goal.returns
returns c =
    let source = c.args.source.now in
    let starts = c.args.starts.now in
    let seen = c.args.seen.now in
    let index = c.saturating_sub-index.result in
    let one = get_or seen index c.index-seen-index.result in
    let low : index < length starts = omega (arith, c.requires.count, c.if-index-seen.false) in
    let inside : index < length seen = omega (arith, c.if-index-seen.false) in
    let start : ℕ = get_or starts index 0 in
    let found : slice_get seen (c.args.fault.number - 1) ≡ Some one =
    subst (λ k. slice_get seen k ≡ Some one) c.saturating_sub-index.ensures
    (slice_get-get_or seen index c.index-seen-index.result inside) in
    let begins : Starts source (texts_seen seen) (c.args.fault.number - 1) start =
    subst (λ k. Starts source (texts_seen seen) k start) c.saturating_sub-index.ensures
    (c.requires.each index start (slice_get-get_or starts index 0 low)) in
    let are : ArePlaces source start (statement_tree_of one.statement) c.in_ok-places.places =
    record { placed = c.in_ok-places.ensures.placed; front = c.in_ok-places.ensures.front } in
    (fault_line source c.args.fault c.in_ok-places.places, there c.in_ok-places.places found begins are, c.append_fault.ensures)
