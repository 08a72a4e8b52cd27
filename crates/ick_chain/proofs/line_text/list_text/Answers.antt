use Rattle.std.proofs.Common.{rules, ◌≡◌, ◌++◌, ap, ◌∙◌, subst}
use Rattle.std.specs.Prelude.{codes}
use Rattle.ick_numbers.specs.Values.{natural}
use Rattle.ick_chain.specs.ExactListings.{AreLineTexts}
use Rattle.ick_chain.specs.Lines.{lines_of}
use Rattle.ick_chain.proofs.line_text.list_text.Goals as goal

pub returns : goal.returns
returns c = λ p s silent h.
    let text = c.in_ok-text.text.items in
    let last = c.in_ok-last.last.items in
    let x1 = c.extend_from_slice.new.self.items in
    let x2 = c.extend_from_slice-2.new.self.items in
    let e1 : x1 ≡ text ++ last = search rules in
    let e2 : x2 ≡ x1 ++ codes "DONE\n" = search rules in
    record {
      lines = text;
      last = last;
      are_lines = subst (λ z. AreLineTexts c.args.exact z (natural c.args.parts.now) (lines_of c.args.lines.now) text) silent
          c.in_ok-text.ensures;
      is_last = c.in_ok-last.ensures p s silent h;
      same = e2 ∙ ap (λ z. z ++ codes "DONE\n") e1;
    }
