use Rattle.std.proofs.lemmas.List.{length-map}
use Rattle.std.proofs.Common.{add-one, ◌≡◌, arith, refl, length}
use Rattle.ick_code.specs.Compiled.{code_program}
use Rattle.ick_inspect.specs.Positions.{position_in, texts_of}
use Rattle.ick_inspect.proofs.PositionLemmas.{goes_first, goes_last, goes_more, next_text}
use Rattle.ick_inspect.proofs.positions.positions_of.Goals as goal

pub loop-index-init : goal.loop-index-init
unfolding position_in
loop-index-init c = record {
  within = omega arith;
  position = refl;
  goes = rw (c.in_ok-found.ensures.items) (goes_first c.args.source.now (texts_of (code_program c.args.code.now)));
}

pub loop-index-preserved : goal.loop-index-preserved
loop-index-preserved c =
    let source = c.args.source.now in
    let texts = texts_of (code_program c.args.code.now) in
    let start = c.after_white-start.result in
    record {
      within = omega arith;
      position = c.moved-position-in-loop-index.ensures;
      goes =
          rw (c.in_ok-push.ensures.items, c.moved-position.ensures) (goes_more source texts
          c.loop-index.index c.loop-index.at start _ c.loop-index.found.items
          c.text.result.now c.loop-index.invariant.goes (rw add-one (next_text
          (code_program c.args.code.now) c.loop-index.index
          c.text.result.now (rw add-one at c.text.ensures))) record {
            order = c.after_white-start.ensures.order;
            within = c.after_white-start.ensures.within;
            white = c.after_white-start.ensures.white;
            solid = c.after_white-start.ensures.solid;
          } (λ h. omega (arith, h, c.min.ensures)));
    }

pub returns-clause-at : goal.returns-clause-at
returns-clause-at c =
    let program = code_program c.args.code.now in
    let size : length (texts_of program) ≡ length program = length-map program (λ statement. statement.text) in
    goes_last c.args.source.now (texts_of program) c.loop-index.index c.loop-index.at c.loop-index.found.items
    (omega arith) c.loop-index.invariant.goes
