use Rattle.std.proofs.Common.{ap, refl, sym, ◌∙◌}
use Rattle.ick_source.specs.Position.{left_at}
use Rattle.ick_source.proofs.ExpressionReadings.{does_close, no_close}
use Rattle.ick_source.proofs.cursor.Cursor.close.Goals as goal

pub returns-then-not-closes : goal.returns-then-not-closes
returns-then-not-closes c =
    no_close _ _ _ _ _ _ c.sign.ensures (λ text. ap (λ t. left_at t.now c.args.self.now.at) text)
    (sym c.if-not-closes.ensures) (rw c.of_close.ensures at c.refuse_at.ensures)

pub returns-else-not-closes : goal.returns-else-not-closes
returns-else-not-closes c = does_close _ _ _ _ c.sign.ensures (sym c.if-not-closes.ensures)
