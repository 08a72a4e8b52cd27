use Rattle.std.proofs.Common.{◌&&◌, ◌∙◌, ap, subst}
use Rattle.ick_stages.specs.Placed.{IsPlacedAt}
use Rattle.ick_stages.specs.Writing.{HasPiece}
use Rattle.ick_syntax.specs.StatementTree.{statement_tree_of}
use Rattle.ick_stages.proofs.LineLaws.{text_written}
use Rattle.ick_stages.proofs.writing.write_stage.Goals as goal

pub returns-in-Ok-made-clause-written : goal.returns-in-Ok-made-clause-written
returns-in-Ok-made-clause-written g c = λ told.
    let a = c.args in
    let tree = statement_tree_of a.statement.now in
    let stage = c.in-Ok-made.ensures.stage in
    text_written _
    (HasPiece a.ready.now a.source.now a.asked.now a.n a.start.at tree a.work.now.draft c.append_stage-made.new.work.draft)
    c.clear.new.self c.append_stage-made.new.text stage.piece _ _ c.write_text.result c.clear.ensures.empty stage.added
    (record {
      placed = c.in-Ok.placed;
      is = subst (λ b. IsPlacedAt a.source.now a.start.at b tree c.in-Ok.placed)
          (c.are_both-wanted.ensures ∙ ap (λ b. b && a.asked.now.parts) c.is_shown.ensures) c.in-Ok.ensures;
      has = stage.has;
    })
    (c.write_text.ensures.written told)
