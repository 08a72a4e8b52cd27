use Rattle.std.proofs.Common.{◌≡◌, [], ◌∷◌, ◌++◌, ap, sym, ◌∙◌, append_assoc, length}
use Rattle.std.specs.Prelude.{option_map}
use Rattle.ick_numbers.specs.Values.{natural}
use Rattle.ick_chain.specs.Lines.{one_of}
use Rattle.ick_chain.proofs.LineTexts.{made_more}
use Rattle.ick_chain.proofs.line.make_lines.Goals as goal

pub rows-preserved : goal.rows-preserved
rows-preserved c =
    let rows = c.args.rows.items in
    let made = c.rows.yielded in
    let row = c.in-Some.row in
    let rest = c.next.new.self.rest.items in
    let parts : rows ≡ made ++ row ∷ rest =
    c.rows.invariant.parts ∙ ap (λ z. made ++ z) c.in-Some.ensures.steps.0 in
    let at : c.len-at.result ≡ length c.rows.lines.items = c.len-at.ensures ∙ c.rows.lines.ok.0 in
    record {
      parts = parts ∙ sym (append_assoc made (row ∷ []) rest);
      made = made_more rows made rest row c.args.counts.now c.args.shown.now c.args.first.now c.rows.lines.items
          c.add_line.new.lines.items c.in_ok-line.line c.index-counts-at.result c.index-shown-at.result
          c.index-first-at.result c.len-at.result parts c.rows.invariant.made at c.if-at-counts.false
          c.if-at-shown.false c.if-at-first.false c.index-counts-at.is c.index-shown-at.is c.index-first-at.is
          c.in_ok-line.ensures.row c.in_ok-line.ensures.count
          (c.in_ok-line.ensures.run
          ∙ (ap (λ z. one_of (option_map natural c.index-counts-at.result) z c.deref-in-rows.result.now)
          c.deref.ensures.value
          ∙ ap (λ z. one_of (option_map natural c.index-counts-at.result) c.index-shown-at.result.items z)
          c.deref-in-rows.ensures.value))
          c.in_ok-add_line.ensures;
    }
