-- Names of variables in the order of the source text, and slots for them.
use Rattle.std.specs.Prelude.{ℕ, suc, ◌+◌, ◌*◌, nat_lt, Bool, not, List, [], ◌∷◌, ◌++◌, filter}
use Rattle.std.specs.Prelude.{Option, Some, None, unwrap_or, option_map, if◌then◌else◌}
use Rattle.std.specs.List.{flat_map, list_any}
use Rattle.ick_syntax.specs.declared.tree.Name.{Name}
use Rattle.ick_syntax.specs.declared.tree.NameKind.{NameKind}
use Rattle.ick_syntax.specs.declared.tree.NameKind.TheVariants.{Onespot, Twospot, Tail, Hybrid}
use Rattle.ick_syntax.specs.Tree.{Tree, mesh, scalar, element, unary, binary, Trees, none, more}
use Rattle.ick_syntax.specs.BodyTree.{ItemTree, single, whole, BodyTree, calculate, dimension, next, forget, resume}
use Rattle.ick_syntax.specs.BodyTree.{stash, retrieve, ignore, remember, abstain_label, abstain_kinds, reinstate_label}
use Rattle.ick_syntax.specs.BodyTree.{reinstate_kinds, give_up, write_in, read_out}
use Rattle.ick_syntax.specs.StatementTree.{StatementTree}
use Rattle.ick_syntax.specs.NameKinds.{is_array}
use Rattle.ick_code.specs.declared.op.SlotName.{SlotName}
use Rattle.ick_code.specs.declared.op.SlotName.TheVariants.{Scalar, Array}
use Rattle.ick_code.specs.meaning.State.{same_name}
use Rattle.ick_code.specs.Effects.{Slots}

abbrev mutual
  pub names_of_tree : Tree → List Name
  names_of_tree (mesh n) = []
  names_of_tree (scalar name) = name ∷ []
  names_of_tree (element array subs) = array ∷ names_of_trees subs
  names_of_tree (unary op t) = names_of_tree t
  names_of_tree (binary op a b) = names_of_tree a ++ names_of_tree b

  pub names_of_trees : Trees → List Name
  names_of_trees none = []
  names_of_trees (more t ts) = names_of_tree t ++ names_of_trees ts

abbrev pub names_of_item : ItemTree → List Name
names_of_item (single t) = names_of_tree t
names_of_item (whole array) = array ∷ []

-- the names of a body; one that isn't recognised has none
abbrev pub names_of_body : Option BodyTree → List Name
names_of_body None = []
names_of_body (Some (calculate target e)) = names_of_tree target ++ names_of_tree e
names_of_body (Some (dimension array es)) = array ∷ flat_map names_of_tree es
names_of_body (Some (next label)) = []
names_of_body (Some (forget e)) = names_of_tree e
names_of_body (Some (resume e)) = names_of_tree e
names_of_body (Some (stash names)) = names
names_of_body (Some (retrieve names)) = names
names_of_body (Some (ignore names)) = names
names_of_body (Some (remember names)) = names
names_of_body (Some (abstain_label label)) = []
names_of_body (Some (abstain_kinds gerunds)) = []
names_of_body (Some (reinstate_label label)) = []
names_of_body (Some (reinstate_kinds gerunds)) = []
names_of_body (Some give_up) = []
names_of_body (Some (write_in places)) = flat_map names_of_item places
names_of_body (Some (read_out items)) = flat_map names_of_item items

-- all names of a program, as often as they stand in it
abbrev pub names_of : List StatementTree → List Name
names_of program = flat_map (λ statement. names_of_body statement.body) program

abbrev pub is_scalar_name : Name → Bool
is_scalar_name name = not (is_array name.kind)

abbrev pub is_array_name : Name → Bool
is_array_name name = is_array name.kind

abbrev pub is_among : Name → List Name → Bool
is_among name names = list_any (same_name name) names

-- each name of a list once, at its first place
abbrev pub each_once : List Name → List Name
each_once [] = []
each_once (name ∷ names) = name ∷ filter (λ other. not (same_name name other)) (each_once names)

-- the slots of a program: its scalars and its arrays, by their first places in the source text
abbrev pub slots_of : List StatementTree → Slots
slots_of program = record {
  scalars = each_once (filter is_scalar_name (names_of program));
  arrays = each_once (filter is_array_name (names_of program));
}

-- the position of a name in a list
abbrev pub found : List Name → Name → Option ℕ
found [] name = None
found (other ∷ names) name = if same_name name other then Some 0 else option_map suc (found names name)

abbrev pub slot_in : List Name → Name → ℕ
slot_in names name = unwrap_or (found names name) 0

-- the slot of a scalar's or an array's name
abbrev pub slot_name : Slots → Name → SlotName
slot_name slots name =
    if is_array name.kind then Array (slot_in slots.arrays name) else Scalar (slot_in slots.scalars name)

-- the names, with one more at the end unless it is among them
abbrev pub with_name : List Name → Name → List Name
with_name names name = if is_among name names then names else names ++ name ∷ []

-- the position of a name among all names, number by number
abbrev pub kind_rank : NameKind → ℕ
kind_rank Onespot = 0
kind_rank Twospot = 1
kind_rank Tail = 2
kind_rank Hybrid = 3

abbrev pub rank_of : Name → ℕ
rank_of name = 4 * name.number + kind_rank name.kind

-- how many numbers names of one kind have, those of 16 bits, and how many names there are of all kinds
abbrev pub numbers_of_a_kind : ℕ
numbers_of_a_kind = 65536

abbrev pub most_names : ℕ
most_names = 4 * numbers_of_a_kind

-- names whose numbers are of 16 bits
abbrev pub is_short : Name → Bool
is_short name = nat_lt name.number numbers_of_a_kind
