use Rattle.std.proofs.Common.{[], sym, subst}
use Rattle.ick_outcomes.specs.Lines.{AreLines, no_line}
use Rattle.ick_outcomes.proofs.lines.summary_text.Goals as goal

pub outcomes-init : goal.outcomes-init
outcomes-init c = (subst (AreLines c.args.exact c.args.silent []) (sym c.new-text.ensures.items) no_line, tt)
