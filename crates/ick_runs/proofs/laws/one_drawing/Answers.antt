use Rattle.ick_runs.proofs.DrawLaws.{one_drawn, some_drawn}
use Rattle.ick_runs.proofs.laws.one_drawing.Goals as goal

pub returns : goal.returns
returns c = λ p s limit word. record { some = some_drawn p s limit word; unique = one_drawn p s limit word }
