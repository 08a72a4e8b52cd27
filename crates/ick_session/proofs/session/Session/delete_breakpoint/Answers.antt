use Rattle.std.proofs.Common.{◌∙◌, codes, refl, sym}
use Rattle.ick_session.specs.Breakpoints.{deletes, has_none}
use Rattle.ick_session.proofs.session.Session.delete_breakpoint.Goals as goal

pub returns-then-has-clause-answers : goal.returns-then-has-clause-answers
returns-then-has-clause-answers c = λ positions. (
  codes "breakpoint deleted\n",
  deletes c.args.statement _ (sym c.has.ensures ∙ c.if-has.true) (record {
    same = refl;
    there = c.delete.ensures.there;
    others = c.delete.ensures.others;
  }),
  c.push.ensures,
)

pub returns-else-has-clause-answers : goal.returns-else-has-clause-answers
returns-else-has-clause-answers c = λ positions.
    (codes "no breakpoint is there\n", has_none c.args.statement (sym c.has.ensures ∙ c.if-has.false), c.push-else-has.ensures)
