use Rattle.std.proofs.Common.{◌≡◌, ℕ, ◌∷◌, [], drop, sym, ◌∙◌}
use Rattle.std.proofs.lemmas.Result.{IfOk-weaker}
use Rattle.ick_source.specs.BodyBytes.{IsBodyIn}
use Rattle.ick_source.specs.Position.{characters}
use Rattle.ick_syntax.specs.BodyTree.{BodyTree, body_tree_of}
use Rattle.ick_places.specs.Bodies.{body_marks}
use Rattle.ick_places.specs.Statements.{AreBodyMarks, is_recognised, whole}
use Rattle.ick_places.proofs.StatementLemmas.{marks_none, marks_some}
use Rattle.ick_places.proofs.statement.body_marks_of.Goals as goal

pub returns-then-not-recognises : goal.returns-then-not-recognises
returns-then-not-recognises c =
    let a = c.args in
    let body = is_recognised (body_tree_of a.body.now) in
    IfOk-weaker c.whole_mark.result (λ marks. marks.items ≡ whole a.whole.from a.whole.to ∷ [])
    (λ marks. AreBodyMarks a.source.now a.whole.from a.whole.to a.begin body marks.items)
    (λ marks e. marks_none a.source.now a.whole.from a.whole.to a.begin body marks.items
    (sym c.recognises.ensures ∙ c.if-not-recognises.true) e) c.whole_mark.ensures

pub returns : goal.returns
returns c =
    let a = c.args in
    let body = is_recognised (body_tree_of a.body.now) in
    IfOk-weaker c.marks_of.result
    (λ marks. (to : ℕ) (b : BodyTree) → IsBodyIn a.source.now a.begin to b →
    marks.items ≡ body_marks a.source.now (characters (drop a.begin a.source.now)))
    (λ marks. AreBodyMarks a.source.now a.whole.from a.whole.to a.begin body marks.items)
    (λ marks e. marks_some a.source.now a.whole.from a.whole.to a.begin body marks.items
    (sym c.recognises.ensures ∙ c.if-not-recognises.false) e) c.marks_of.ensures
