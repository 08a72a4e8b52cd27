-- Where statements and their parts are.
use Rattle.std.specs.Prelude.{ℕ, ◌≡◌, ◌+◌, Bool, true, false, List, [], ◌∷◌, length, drop, Option, Some, None}
use Rattle.ick_places.specs.declared.head.Head.{Head}
use Rattle.ick_places.specs.declared.mark.Mark.{Mark}
use Rattle.ick_places.specs.declared.mark.Part.TheVariants.{Action}
use Rattle.ick_places.specs.declared.statement.Places.{Places}
use Rattle.ick_places.specs.Bodies.{body_marks}
use Rattle.ick_places.specs.Heads.{IsPlacedHead}
use Rattle.ick_source.specs.BodyBytes.{IsBodyIn}
use Rattle.ick_source.specs.Position.{characters}
use Rattle.ick_syntax.specs.BodyTree.{BodyTree}
use Rattle.ick_syntax.specs.StatementTree.{StatementTree}

abbrev pub is_recognised : Option BodyTree → Bool
is_recognised None = false
is_recognised (Some b) = true

-- the whole of a statement, as what is done
abbrev pub whole : (from to : ℕ) → Mark
whole from to = record { part = Action; from = from; to = to }

-- the marks of a statement whose body begins at a byte
abbrev pub statement_marks : (source : List ℕ) → (from to begin : ℕ) → Option BodyTree → List Mark
statement_marks source from to begin None = whole from to ∷ []
statement_marks source from to begin (Some b) = body_marks source (characters (drop begin source))

-- the marks of the body that begins at a byte, if the statement is recognised, or of the whole if it isn't
abbrev pub AreBodyMarks : (source : List ℕ) → (from to begin : ℕ) → (recognised : Bool) → List Mark → Type 0
AreBodyMarks source from to begin false marks = marks ≡ whole from to ∷ []
AreBodyMarks source from to begin true marks =
    (last : ℕ) (b : BodyTree) → IsBodyIn source begin last b →
    marks ≡ body_marks source (characters (drop begin source))

-- the statement's text, its head, and the marks of its body
pub record IsPlaced (source : List ℕ) (at : ℕ) (t : StatementTree) (p : Places) : Type 0 where
  pub from : p.from ≡ at
  pub to : p.to ≡ at + length t.text
  pub head : Head
  pub head_is : p.head ≡ Some head
  pub placed : IsPlacedHead source at head
  pub marks : p.marks.items ≡ statement_marks source at (at + length t.text) head.begin t.body

-- the bytes before the first start
pub record IsPlacedFront (at : ℕ) (t : StatementTree) (p : Places) : Type 0 where
  pub from : p.from ≡ at
  pub to : p.to ≡ at + length t.text
  pub head : p.head ≡ None
  pub marks : p.marks.items ≡ whole at (at + length t.text) ∷ []
