-- For private contracts: what a reader over a cursor does. It keeps its first refusal, and reads nothing after it.
use Rattle.std.specs.Prelude.{ℕ, Bool, true, false, map, ◌≡◌, ◌⊎◌, ◌++◌, ◌∷◌, [], List, Option, Some, None}
use Rattle.std.specs.Prelude.{Result, Ok, Err}
use Rattle.std.specs.Borrow.{Bor}
use Rattle.std.specs.Global.{Vec}
use Rattle.ick_syntax.specs.declared.faults.Faults.{Faults}
use Rattle.ick_syntax.specs.declared.body.Gerund.{Gerund}
use Rattle.ick_syntax.specs.declared.tree.Expr.{Expr}
use Rattle.ick_syntax.specs.declared.tree.Name.{Name as Name'}
use Rattle.ick_syntax.specs.declared.tree.NameKind.{NameKind}
use Rattle.ick_source.specs.declared.cursor.Cursor.{Cursor}
use Rattle.ick_source.specs.declared.cursor.Sort.{Sort}
use Rattle.ick_source.specs.declared.cursor.Sort.TheVariants.{Mesh, Name, Label}
use Rattle.ick_source.specs.declared.expression.Sized.{Sized as Found_sized}
use Rattle.ick_source.specs.declared.parsed.Unread.{Unread}
use Rattle.ick_source.specs.declared.wanted.Wanted.{Wanted}
use Rattle.ick_source.specs.declared.parsed.Unread.TheVariants.{Absent, NoMemory}
use Rattle.ick_source.specs.Position.{left_at, past_white}
use Rattle.ick_source.specs.Grammar.{Grammar, past_word}
use Rattle.ick_source.specs.Reading.{read, is_there}
use Rattle.ick_source.specs.Stops.{stops}
use Rattle.ick_source.specs.Expression.{Sized, sized, trees_along, highest}
use Rattle.ick_source.specs.BodyGrammar.{names, places, items, gerunds, wholes}
use Rattle.ick_syntax.specs.Tree.{Tree, tree_of, trees_in}
use Rattle.ick_syntax.specs.Clamped.{both_faults, no_faults, clamped, clamped_name, clamped_tree, clamped_trees}
use Rattle.ick_syntax.specs.Clamped.{mesh_faults, name_faults, label_faults, faults_of, faults_in}
use Rattle.ick_syntax.specs.BodyTree.{ItemTree, clamped_item, faults_of_item, BodyTree, clamped_body, faults_of_body}
use Rattle.ick_syntax.specs.BodyTree.{faults_along, faults_of_name}

-- the characters that are left
abbrev pub left : Cursor → List ℕ
left c = left_at c.text.now c.at

-- a reader answers a value with clamped numbers, and notes the faults of its numbers
pub record Clamping (A : Type 0) : Type 1 where
  pub Clamped : Type 0
  pub clamp : A → Clamped
  pub faults : A → Faults

-- a value was read and the cursor is after it; Q holds of the value and of its faults
pub record Ran {A : Type 0} (g : Grammar A) (old new : Cursor) (Q : A → Faults → Type 0) : Type 0 where
  pub value : A
  pub faults : Faults
  pub finding : read g (left old) ≡ Some (record { value = value; left = left new })
  pub are_faults : new.faults ≡ both_faults old.faults faults
  pub same_text : new.text ≡ old.text
  pub holds : Q value faults

-- reading stops there, and this is wanted, whatever was read before
abbrev pub Halts : {A : Type 0} → Grammar A → (from at : List ℕ) → Wanted → Type 0
Halts g from at w = (told : List ℕ) → stops g told from at w

abbrev pub Outcome : {A : Type 0} → Grammar A → Cursor → Cursor → (A → Faults → Type 0) → Option Unread → Type 0
Outcome g old new Q None = Ran g old new Q
Outcome g old new Q (Some u) = (w : Wanted) → u ≡ Absent w →
    (Halts g (left old) (left new) w) × (new.text ≡ old.text)

-- a refusal, the text, and the characters that are left where it was kept
pub record Refused : Type 0 where
  pub unread : Unread
  pub place : List ℕ
  pub text : Bor (List ℕ)

abbrev pub HasRefused : Refused → Cursor → Type 0
HasRefused r c = (c.refusal ≡ Some r.unread) × (left c ≡ r.place) × (c.text ≡ r.text)

-- an earlier refusal stays, and the cursor stays there
abbrev pub Stays : Cursor → Cursor → Type 0
Stays old new = (r : Refused) → HasRefused r old → HasRefused r new

-- what a reader of a grammar does: an earlier refusal stays; else a value was read, or there is a refusal
pub record Does {A : Type 0} (g : Grammar A) (old new : Cursor) (Q : A → Faults → Type 0) : Type 0 where
  pub stays : Stays old new
  pub ends : old.refusal ≡ None → Outcome g old new Q new.refusal

-- the answer is the value with clamped numbers
pub record Clamps {A : Type 0} (c : Clamping A) (seen : c.Clamped) (x : A) (f : Faults) : Type 0 where
  pub is_clamped : seen ≡ c.clamp x
  pub is_faults : f ≡ c.faults x

abbrev pub Reads : {A : Type 0} → Grammar A → (c : Clamping A) → Cursor → Cursor → c.Clamped → Type 0
Reads g c old new seen = Does g old new (Clamps c seen)

-- this value, which has no numbers
pub record IsPlain {A : Type 0} (seen x : A) (f : Faults) : Type 0 where
  pub same : x ≡ seen
  pub none : f ≡ no_faults

pub record IsPlainSome {A : Type 0} (seen : Option A) (x : A) (f : Faults) : Type 0 where
  pub same : seen ≡ Some x
  pub none : f ≡ no_faults

-- there is a refusal: this is wanted where these characters are left
pub record Refuses (w : Wanted) (place : List ℕ) (old new : Cursor) : Type 0 where
  pub stays : Stays old new
  pub kept : old.refusal ≡ None → HasRefused (record { unread = Absent w; place = place; text = old.text }) new

-- whether this word comes next
pub record Sees (w : List ℕ) (now : Cursor) (seen : Bool) : Type 0 where
  pub is : now.refusal ≡ None → seen ≡ is_there (past_word w (past_white (left now)))

-- whether a word came next; if so, the cursor is after it, else where it was
abbrev pub Eats : List ℕ → Cursor → Cursor → Bool → Type 0
Eats w old new true =
    (old.refusal ≡ None) × (new.refusal ≡ None) × (past_word w (past_white (left old)) ≡ Some (left new))
    × (new.faults ≡ old.faults) × (new.text ≡ old.text)
Eats w old new false = (old.refusal ≡ None → past_word w (past_white (left old)) ≡ None) × (new ≡ old)

-- the expression, or a refusal
pub record Makes (old new : Cursor) (expr : Result Expr Unread) (made : Expr) : Type 0 where
  pub stays : Stays old new
  pub ok : (e : Expr) → expr ≡ Ok e → (made ≡ e) × (new ≡ old)
  pub err : (u : Unread) → expr ≡ Err u → old.refusal ≡ None → new.refusal ≡ Some u

-- the list with one part more, or a refusal
pub record Keeps {T : Type 0} (old new : Cursor) (items items' : List T) (one : T) : Type 0 where
  pub stays : Stays old new
  pub ends : old.refusal ≡ None →
      ((new ≡ old) × (items' ≡ items ++ one ∷ [])) ⊎ (new.refusal ≡ Some NoMemory)

abbrev pub faults_by : Sort → ℕ → Faults
faults_by Mesh n = mesh_faults n
faults_by Name n = name_faults n
faults_by Label n = label_faults n

-- the sort of the number of a variable of this kind, or of a mesh for no kind
abbrev pub leaf_sort : Option NameKind → Sort
leaf_sort (Some kind) = Name
leaf_sort None = Mesh

abbrev pub numbers : Sort → Clamping ℕ
numbers s = record { Clamped = ℕ; clamp = clamped; faults = faults_by s }

abbrev pub trees : Clamping (Sized Tree)
trees = record {
  Clamped = Sized Tree;
  clamp = λ t. sized (clamped_tree t.value) t.height;
  faults = λ t. faults_of t.value;
}

abbrev pub listed : {A : Type 0} → Clamping A → Clamping (List A)
listed c = record { Clamped = List c.Clamped; clamp = map c.clamp; faults = faults_along c.faults }

abbrev pub plain_names : Clamping Name'
plain_names = record { Clamped = Name'; clamp = clamped_name; faults = faults_of_name }

abbrev pub plain_trees : Clamping Tree
plain_trees = record { Clamped = Tree; clamp = clamped_tree; faults = faults_of }

abbrev pub plain_items : Clamping ItemTree
plain_items = record { Clamped = ItemTree; clamp = clamped_item; faults = faults_of_item }

abbrev pub plain_gerunds : Clamping Gerund
plain_gerunds = record { Clamped = Gerund; clamp = λ g. g; faults = λ g. no_faults }

abbrev pub body_trees : Clamping BodyTree
body_trees = record {
  Clamped = Option BodyTree;
  clamp = λ b. Some (clamped_body b);
  faults = faults_of_body;
}

-- a part that may be in a list
pub record Kind : Type 1 where
  pub Value : Type 0
  pub grammar : Grammar Value
  pub clamping : Clamping Value

abbrev pub expression_kind : Kind
expression_kind = record { Value = Tree; grammar = wholes; clamping = plain_trees }

abbrev pub name_kind : Kind
name_kind = record { Value = Name'; grammar = names; clamping = plain_names }

abbrev pub place_kind : Kind
place_kind = record { Value = ItemTree; grammar = places; clamping = plain_items }

abbrev pub item_kind : Kind
item_kind = record { Value = ItemTree; grammar = items; clamping = plain_items }

abbrev pub gerund_kind : Kind
gerund_kind = record { Value = Gerund; grammar = gerunds; clamping = plain_gerunds }

-- this tree, and this height
abbrev pub IsSized : Found_sized Expr → Sized Tree → Faults → Type 0
IsSized seen = Clamps trees (sized (tree_of seen.value) seen.height)

-- these trees, and the greatest of their heights
pub record Along (items : List Expr) (height : ℕ) (xs : List (Sized Tree)) (f : Faults) : Type 0 where
  pub is_height : height ≡ highest xs
  pub are_clamped : trees_in items ≡ clamped_trees (trees_along xs)
  pub are_faults : f ≡ faults_in (trees_along xs)

abbrev pub AreSized : Found_sized (Vec Expr) → List (Sized Tree) → Faults → Type 0
AreSized seen = Along seen.value.items seen.height
