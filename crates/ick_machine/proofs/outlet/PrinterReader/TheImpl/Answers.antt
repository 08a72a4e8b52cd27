use Rattle.std.proofs.Common.{ℕ, false, refl, subst}
use Rattle.ick_engine.specs.Feeds.{MayBeLeft}
use Rattle.ick_machine.specs.declared.live.Live.{Live}
use Rattle.ick_machine.proofs.outlet.PrinterReader.TheImpl.Goals as goal

-- what may be left depends only on what every call keeps
pub leave-tells : goal.leave-tells
leave-tells g x c = record {
  input = λ after has. (
    after,
    subst (λ (h : ℕ × Live × g.row.F.Denot × ℕ × g.row.O.Denot).
        MayBeLeft g.F.Feed.told false h.1.line.items (g.F.Feed.left h.2) after) c.ensures.held has,
    refl,
  );
  held = c.ensures.held;
  stops = λ is. refl;
}
