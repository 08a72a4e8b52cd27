-- The marks of statements.
use Rattle.std.proofs.Common.{◌≡◌, ℕ, Bool, true, false, List, [], ◌∷◌, drop, Option, Some, None, sym, subst}
use Rattle.ick_places.specs.declared.head.Head.{Head}
use Rattle.ick_places.specs.declared.mark.Mark.{Mark}
use Rattle.ick_places.specs.Bodies.{body_marks}
use Rattle.ick_places.specs.Heads.{IsPlacedHead}
use Rattle.ick_places.specs.Statements.{AreBodyMarks, statement_marks, is_recognised, whole}
use Rattle.ick_places.proofs.HeadLemmas.{head-begins}
use Rattle.ick_source.specs.BodyBytes.{IsBodyIn}
use Rattle.ick_source.specs.Position.{characters}
use Rattle.ick_source.specs.Statements.{IsStatement, Ends, recognised}
use Rattle.ick_syntax.specs.BodyTree.{BodyTree}
use Rattle.ick_syntax.specs.StatementTree.{StatementTree}

pub marks_none : (source : List ℕ) (from to begin : ℕ) (recognised : Bool) (marks : List Mark) →
    recognised ≡ false → marks ≡ whole from to ∷ [] → AreBodyMarks source from to begin recognised marks
marks_none source from to begin false marks e f = f
marks_none source from to begin true marks e f = absurd cc

pub marks_some : (source : List ℕ) (from to begin : ℕ) (recognised : Bool) (marks : List Mark) →
    recognised ≡ true →
    ((last : ℕ) (b : BodyTree) → IsBodyIn source begin last b → marks ≡ body_marks source (characters (drop begin source))) →
    AreBodyMarks source from to begin recognised marks
marks_some source from to begin false marks e f = absurd cc
marks_some source from to begin true marks e f = f

by_end : (source : List ℕ) (from to begin head start end : ℕ) (body : Option BodyTree) (marks : List Mark) →
    AreBodyMarks source from to begin (is_recognised body) marks → begin ≡ start → Ends source head start end body →
    marks ≡ statement_marks source from to begin body
by_end source from to begin head start end None marks p e x = p
by_end source from to begin head start end (Some b) marks p e (recognised x) =
    p x.last b (subst (λ k. IsBodyIn source k x.last b) (sym e) x.body)

-- the marks of a statement that stands there
pub marks_are : (source : List ℕ) (at to end : ℕ) (t : StatementTree) (h : Head) (marks : List Mark) →
    IsPlacedHead source at h → IsStatement source at end t → AreBodyMarks source at to h.begin (is_recognised t.body) marks →
    marks ≡ statement_marks source at to h.begin t.body
marks_are source at to end t h marks p s m =
    by_end source at to h.begin s.head s.begin end t.body marks m (head-begins p s) s.ends
