use Rattle.std.proofs.Common.{◌≡◌, ◌+◌, Bool, refl, subst, arith}
use Rattle.ick_engine.specs.Feeds.{one_if}
use Rattle.ick_machine.proofs.PrinterLemmas.{kept_all, kept_more, kept_part}
use Rattle.ick_machine.proofs.outlet.PrinterReader.leave.Goals as goal
use Rattle.ick_machine.proofs.outlet.PrinterReader.leave.Goals.{then-self-output-2+in_default, else-self-output-2}

pub invariant_of-self : goal.invariant_of-self
invariant_of-self g c =
    let p = c.args.self.now in
    let none = subst (λ (broken : Bool). g.O.Outlet.failed p.outlet ≡ g.O.Outlet.failed p.first.value + one_if broken)
    c.if-self.false p.count in
    record {
      room = p.room;
      count = omega (arith, c.in-Err.ensures.count, none);
      left = kept_part g.F.Feed.told g.O.Outlet.told _ _ _ _ c.requires c.if-self.false p.left
          (omega (arith, c.if-self-output.false)) c.in-Err.ensures.part;
    }

pub invariant_of-self-then-self-output-2 : goal.invariant_of-self-then-self-output-2
invariant_of-self-then-self-output-2 g c =
    let p = c.args.self.now in
    record {
      room = p.room;
      count = omega (arith, c.in_default.ensures.count, p.count);
      left = kept_more g.F.Feed.told g.O.Outlet.told _ _ _ _ c.requires c.if-self.false p.left
          (omega (arith, c.if-self-output.false)) c.in_default.ensures.all;
    }

pub returns-clause-all : goal.returns-clause-all
returns-clause-all g c = λ t t'. elim c.if-self-output-2.branch [
  | then-self-output-2+in_default w ↦ rw w.self-is (
      kept_all g.F.Feed.told g.O.Outlet.told _ _ _ _ c.requires c.if-self.false
      (kept_more g.F.Feed.told g.O.Outlet.told _ _ _ _ c.requires c.if-self.false c.args.self.now.left
      (omega (arith, c.if-self-output.false)) w.in_default.ensures.all) refl t t')
  | else-self-output-2 w ↦ rw w.self-is (
      kept_all g.F.Feed.told g.O.Outlet.told _ _ _ _ c.requires c.if-self.false c.args.self.now.left
      (omega (arith, c.if-self-output.false, w.if-self-output-2.false)) t t')
]
