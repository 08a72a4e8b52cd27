use Rattle.std.proofs.Common.{refl, [], ◌∷◌}
use Rattle.ick_code.proofs.TableLemmas.{came_more}
use Rattle.ick_code.proofs.table.Table.add_all.Goals as goal

pub loop-name-preserved : goal.loop-name-preserved
loop-name-preserved c =
    came_more (λ l. l) (λ name. name ∷ []) (λ xs x. refl) c.args.self.now c.loop-name.self c.add.new.self
    c.args.names.now c.loop-name.name-index _ _ c.loop-name.invariant c.add.ensures c.loop-name-test.true refl
