-- For private contracts: what a walk over a part of a text does.
use Rattle.std.specs.Prelude.{ℕ, ◌≡◌, ◌≤◌, Bool, true, false, List, ◌++◌, length, Option, Some, None, codes}
use Rattle.ick_places.specs.declared.mark.Mark.{Mark}
use Rattle.ick_places.specs.declared.walker.Walker.{Walker}
use Rattle.ick_source.specs.BodyGrammar.{indices, assigned, abstained_by, reinstated_by}
use Rattle.ick_source.specs.Expression.{trees_along}
use Rattle.ick_source.specs.Grammar.{Grammar, stands, past_word, looks, yields, ◌>>=◌}
use Rattle.ick_syntax.specs.BodyTree.{BodyTree}
use Rattle.ick_syntax.specs.Tree.{Tree, Trees}
use Rattle.ick_source.specs.Position.{left_at, past_white}
use Rattle.ick_source.specs.Reading.{read}

-- the characters that are left
abbrev pub left : Walker → List ℕ
left w = left_at w.text.now w.at

-- what each walk keeps: the text, that memory was refused, and the characters before it
pub record Keeps (old new : Walker) : Type 0 where
  pub same_text : new.text ≡ old.text
  pub fine : new.refused ≡ false → old.refused ≡ false
  pub within : length (left new) ≤ length (left old)

-- these marks were appended, and the walk didn't move
pub record Adds (old new : Walker) (marks : List Mark) : Type 0 where
  pub same_text : new.text ≡ old.text
  pub same_place : new.at ≡ old.at
  pub fine : new.refused ≡ false → old.refused ≡ false
  pub added : new.refused ≡ false → new.marks.items ≡ old.marks.items ++ marks

-- a part of this grammar, if one begins here, was passed, and these are its marks
pub record Walks {A : Type 0} (g : Grammar A) (old new : Walker) (marks : List Mark) : Type 0 where
  pub keeps : Keeps old new
  pub goes : (to : List ℕ) (x : A) → stands g (left old) to x → left new ≡ to
  pub added : (to : List ℕ) (x : A) → stands g (left old) to x →
      new.refused ≡ false → new.marks.items ≡ old.marks.items ++ marks

-- the word was passed if it follows
abbrev pub Passes : List ℕ → Walker → Walker → Bool → Type 0
Passes w old new true = past_word w (past_white (left old)) ≡ Some (left new)
Passes w old new false = (past_word w (past_white (left old)) ≡ None) × (left new ≡ left old)

-- no mark was appended
pub record HasMarksOf (old new : Walker) : Type 0 where
  pub refused : new.refused ≡ old.refused
  pub marks : new.marks.items ≡ old.marks.items

-- the value that a grammar finds was passed, or the grammar finds nothing
abbrev pub Finds : {A : Type 0} → Grammar A → Walker → Walker → Option A → Type 0
Finds g old new None = read g (left old) ≡ None
Finds g old new (Some x) = read g (left old) ≡ Some (record { value = x; left = left new })

-- the subscripts of a target, and its value
abbrev pub element_values : (Trees → Tree → BodyTree) → Grammar BodyTree
element_values make = indices >>= λ ts. assigned >>= λ e. yields (make (trees_along ts) e)

-- a label or gerunds, whatever is made of them
pub record Switches (old new : Walker) (marks : List Mark) : Type 0 where
  pub abstains : Walks (looks (codes "(") >>= abstained_by) old new marks
  pub reinstates : Walks (looks (codes "(") >>= reinstated_by) old new marks
