use Rattle.std.proofs.Common.{◌≡◌, ◌<◌, ◌^◌, ap, arith}
use Rattle.std.specs.Prelude.{Err}
use Rattle.std.proofs.lemmas.Grind.{common_steps}
use Rattle.ick_explorer.specs.declared.errors.RunsError.TheVariants.{BadCursor}
use Rattle.ick_explorer.proofs.BackLaws.{back_ok, back_error}
use Rattle.ick_explorer.proofs.cursor.Cursor.from_text.Goals as goal

pub returns-in-Err-clause-bad_cursor : goal.returns-in-Err-clause-bad_cursor
returns-in-Err-clause-bad_cursor c = λ e.
    let same : c.in-Err.refused ≡ BadCursor = cc in
    c.in-Err.ensures.bad_cursor (ap Err same)

pub returns-in-Err-clause-back : goal.returns-in-Err-clause-back
returns-in-Err-clause-back c = λ c' e le.
    let cap : c.args.limit < 2 ^ 32 = grind (arith, common_steps) in
    let refused = c.in-Err.ensures in (
      tt,
      back_error c.args.text.now c.args.limit c.in-Err.refused cap (λ b. refused.bad_cursor (ap Err b))
          (λ n. refused.no_such_run (ap Err n)) refused.errors c' e le,
    )

pub returns-in-Ok-clause-back : goal.returns-in-Ok-clause-back
returns-in-Ok-clause-back c = λ c' e le.
    let cap : c.args.limit < 2 ^ 32 = grind (arith, common_steps) in
    (back_ok c.args.text.now c.args.limit c.in-Ok.choices.items cap c.in-Ok.ensures.ok.0 c' e le, tt)
