use Rattle.std.proofs.Common.{Bool, refl, subst, sym}
use Rattle.ick_code.specs.Compiled.{code_program}
use Rattle.ick_outcomes.specs.Seen.{rows_of}
use Rattle.ick_outcomes_cli.specs.Tool.{HasLimit, IsEndedText, IsUnlimited, by_runs}
use Rattle.ick_outcomes_cli.proofs.Short.{each_ends, goes_beyond}
use Rattle.ick_outcomes_cli.proofs.exact.find_short.Goals as goal

pub returns-then-has_limit : goal.returns-then-has_limit
returns-then-has_limit c = (
  refl,
  record {
    beyond = λ outcomes. goes_beyond (code_program c.args.code.now) c.args.question c.args.input.now _ (rows_of c.in-Ok.outcomes.items)
        c.in-Ok.ensures.summary
        (subst (λ l. HasLimit (rows_of l)) c.deref.ensures.value (c.has_limit.ensures.yes c.if-has_limit.true));
    reason = c.requires.reason;
  },
)

pub returns-in-Ok : goal.returns-in-Ok
returns-in-Ok c =
    let q = c.args.question in
    let p = code_program c.args.code.now in
    let rows = rows_of c.in-Ok.outcomes.items in
    let text = c.in_ok-text-in-Ok.text.items in
    subst (λ (b : Bool). IsUnlimited b p c.args.input.now q text) (sym c.requires.outcomes)
    (by_runs
    (each_ends p q c.args.input.now _ rows c.in-Ok.ensures.summary
    (subst (λ l. ¬ HasLimit (rows_of l)) c.deref.ensures.value (c.has_limit.ensures.no c.if-has_limit.false)))
    (record {
      outcomes = c.in-Ok.outcomes.items;
      summary = c.in-Ok.ensures.summary;
      text_is = subst (λ l. IsEndedText q.exact q.ends q.total l text) c.deref-in-Ok.ensures.value
          c.in_ok-text-in-Ok.ensures;
    }))
