use Rattle.std.proofs.Common.{◌≡◌, ◌+◌, ◌≤◌, Some, [], ◌∷◌, ◌++◌, ap, arith, length, refl, subst, sym}
use Rattle.std.proofs.lemmas.List.{length_push}
use Rattle.std.specs.Prelude.{slice_get}
use Rattle.ick_stages.specs.Listed.{AreSeen, AreSomeSeen, HasSeen, seen_more, texts_seen}
use Rattle.ick_stages.specs.Starts.{Reaches, Starts, no_text}
use Rattle.ick_stages.proofs.LineLaws.{each_more, element_at, nowhere_in, piece_failed}
use Rattle.ick_stages.proofs.ListedLaws.{seen_reaches, wrote_more, wrote_none}
use Rattle.ick_stages.proofs.listed.write_statements.Goals as goal

pub loop-one-init : goal.loop-one-init
loop-one-init g c = record {
  failed = refl;
  point = c.first-point.ensures.point _;
  reaches = subst (λ k. Reaches c.args.source.now (texts_seen c.args.seen.now) 0 k) (sym c.first-point.ensures.at) no_text;
  many = ap length c.requires.empty;
  within = λ n start e. absurd (nowhere_in _ n start c.requires.empty e);
  each = λ n start e. absurd (nowhere_in _ n start c.requires.empty e);
  first = λ told. wrote_none _ _ _ _;
}

pub returns-in-Err-clause-written : goal.returns-in-Err-clause-written
returns-in-Err-clause-written g c = λ told.
    let before = c.loop-one.invariant in
    let first = before.first told in
    let k = c.loop-one.one-index in
    let found = element_at c.args.seen.now k c.one-item.result c.one-item.is c.loop-one-test.true in
    let starts : Starts c.args.source.now (texts_seen c.args.seen.now) k c.past_white-start.result.at =
    record { at = c.loop-one.point.at; reaches = before.reaches; gap = c.past_white-start.ensures.gap } in
    piece_failed (Unit {0}) (Unit {0})
    (HasSeen c.args.source.now c.past_white-start.result.at c.args.asked.now c.one-item.result)
    (AreSeen c.args.source.now c.args.asked.now c.args.seen.now (length c.args.seen.now))
    (AreSomeSeen c.args.source.now c.args.asked.now c.args.seen.now) _ _ _ first.lines c.in-Err.refused first.written
    (k, first.are) (λ piece has. (k + 1, seen_more first.are found starts has)) (c.in-Err.ensures.written told)

pub loop-one-preserved : goal.loop-one-preserved
loop-one-preserved g c =
    let before = c.loop-one.invariant in
    let source = c.args.source.now in
    let seen = c.args.seen.now in
    let k = c.loop-one.one-index in
    let start = c.past_white-start.result in
    let found = element_at seen k c.one-item.result c.one-item.is c.loop-one-test.true in
    let gap = c.past_white-start.ensures.gap in
    let starts : Starts source (texts_seen seen) k start.at =
    record { at = c.loop-one.point.at; reaches = before.reaches; gap = gap } in
    let old = c.loop-one.starts.items in
    let pushed : c.write_seen.new.starts.items ≡ old ++ start.at ∷ [] = c.in-Ok.ensures.starts in
    record {
      failed = omega (arith, c.in-Ok.ensures.count, before.failed);
      point = c.past_text-point.ensures.point;
      reaches = seen_reaches source seen k _ _ _ c.one-item.result before.reaches found gap c.past_text-point.ensures.at;
      many = omega (arith, ap length pushed, length_push old start.at, before.many);
      within = λ n s e. each_more (λ m at. at ≤ length source) old start.at before.within
          c.past_white-start.ensures.point.within n s (subst (λ xs. slice_get xs n ≡ Some s) pushed e);
      each = λ n s e. each_more (λ m at. Starts source (texts_seen seen) m at) old start.at before.each
          (subst (λ m. Starts source (texts_seen seen) m start.at) (sym before.many) starts) n s
          (subst (λ xs. slice_get xs n ≡ Some s) pushed e);
      first = λ told.
          let wrote = c.in-Ok.ensures.written told in
          wrote_more wrote.0 (before.first told) found starts wrote.1 wrote.2;
    }
