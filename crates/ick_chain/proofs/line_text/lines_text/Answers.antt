use Rattle.std.proofs.Common.{[], sym, subst}
use Rattle.ick_numbers.specs.Values.{natural}
use Rattle.ick_chain.specs.ExactListings.{AreLineTexts, no_line}
use Rattle.ick_chain.proofs.LineTexts.{texts_all, texts_more}
use Rattle.ick_chain.proofs.line_text.lines_text.Goals as goal

pub lines-init : goal.lines-init
lines-init c =
    subst (AreLineTexts c.args.exact c.args.silent (natural c.args.parts.now) []) (sym c.new-text.ensures.items) no_line

pub lines-preserved : goal.lines-preserved
lines-preserved c =
    texts_more c.args.exact c.args.silent (natural c.args.parts.now) c.args.lines.now c.lines.line-index c.line-item.result
    c.lines.text.items c.append_line.new.out.items c.lines-test.true c.line-item.is c.lines.invariant
    c.in_ok-append_line.ensures

pub returns : goal.returns
returns c =
    texts_all c.args.exact c.args.silent (natural c.args.parts.now) c.args.lines.now c.lines.line-index c.lines.text.items
    c.lines-test.false c.lines.invariant
