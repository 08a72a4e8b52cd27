use Rattle.std.proofs.Common.{◌≡◌, length, refl, ap, sym, subst, arith}
use Rattle.std.proofs.lemmas.Grind.{common_steps}
use Rattle.ick_explorer.specs.Explorers.{explored}
use Rattle.ick_explorer.specs.Listings.{zeros_in}
use Rattle.ick_explorer.specs.Standing.{StandsAfter, position_of}
use Rattle.ick_explorer.proofs.Nexts.{last_at}
use Rattle.ick_explorer.proofs.explorer.Explorer.advance.Goals as goal

pub returns-then-is_empty-clause-none : goal.returns-then-is_empty-clause-none
returns-then-is_empty-clause-none g c =
    let none : length c.args.self.now.path.points.items ≡ 0 = grind (arith, common_steps) in
    let counted = c.args.self.now.marked.counted in
    let zeros : zeros_in c.args.self.now.path.choices ≡ 0 = omega arith in (
      refl,
      λ s h. last_at (explored c.args.self.now) c.args.self.now.path.choices s
          (ap (λ p. position_of p c.args.self.now.path.choices) c.in-Given.is) zeros,
    )

pub returns-in-Ok-clause-some : goal.returns-in-Ok-clause-some
returns-in-Ok-clause-some g c = λ finish here s h.
    let new = g.M.Backtrack.seen c.find.new.machine in
    let path = c.find.new.path in
    let f = c.in-Ok.ensures.found finish here s h.at_position in
    record {
      least = f.least;
      arrives = f.arrives;
      position = refl;
      stands = record {
        sound = refl;
        at_position =
            subst (λ p. StandsAfter p s c.args.self.now.limit path.choices new.marks path.points.items)
            (sym c.in-Ok.ensures.program) f.stands;
      };
      work = f.work;
    }
