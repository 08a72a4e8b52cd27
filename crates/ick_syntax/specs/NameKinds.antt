-- Names of the right kinds in the trees of a program: scalars have names of spots, elements and dimensioned arrays have
-- names of arrays, and whole arrays have names of tails. A number of 32 bits counts the subscripts or the dimensions of
-- each list.
use Rattle.std.specs.Prelude.{ℕ, suc, nat_lt, length, Bool, true, false, not, ◌&&◌, Option, Some, None}
use Rattle.std.specs.List.{list_all}
use Rattle.ick_syntax.specs.declared.tree.NameKind.{NameKind}
use Rattle.ick_syntax.specs.declared.tree.NameKind.TheVariants.{Onespot, Twospot, Tail, Hybrid}
use Rattle.ick_syntax.specs.Tree.{Tree, mesh, scalar, element, unary, binary, Trees, none, more}
use Rattle.ick_syntax.specs.BodyTree.{ItemTree, single, whole, BodyTree, calculate, dimension, next, forget, resume}
use Rattle.ick_syntax.specs.BodyTree.{stash}
use Rattle.ick_syntax.specs.BodyTree.{retrieve, ignore, remember, abstain_label, abstain_kinds, reinstate_label}
use Rattle.ick_syntax.specs.BodyTree.{reinstate_kinds}
use Rattle.ick_syntax.specs.BodyTree.{give_up, write_in, read_out}
use Rattle.ick_syntax.specs.StatementTree.{StatementTree}

abbrev pub is_array : NameKind → Bool
is_array Onespot = false
is_array Twospot = false
is_array Tail = true
is_array Hybrid = true

abbrev pub count_in : Trees → ℕ
count_in none = 0
count_in (more t ts) = suc (count_in ts)

-- fewer than there are numbers of 32 bits
abbrev pub are_few : Trees → Bool
are_few ts = nat_lt (count_in ts) 4294967296

abbrev mutual
  pub is_kinded : Tree → Bool
  is_kinded (mesh n) = true
  is_kinded (scalar name) = not (is_array name.kind)
  is_kinded (element name ts) = is_array name.kind && (are_few ts && are_kinded ts)
  is_kinded (unary op t) = is_kinded t
  is_kinded (binary op a b) = is_kinded a && is_kinded b

  pub are_kinded : Trees → Bool
  are_kinded none = true
  are_kinded (more t ts) = is_kinded t && are_kinded ts

abbrev pub is_tail : NameKind → Bool
is_tail Onespot = false
is_tail Twospot = false
is_tail Tail = true
is_tail Hybrid = false

abbrev pub is_item_kinded : ItemTree → Bool
is_item_kinded (single t) = is_kinded t
is_item_kinded (whole name) = is_tail name.kind

-- an unrecognised statement has no body
abbrev pub is_body_kinded : Option BodyTree → Bool
is_body_kinded None = true
is_body_kinded (Some (calculate target e)) = is_kinded target && is_kinded e
is_body_kinded (Some (dimension name es)) =
    is_array name.kind && (nat_lt (length es) 4294967296 && list_all is_kinded es)
is_body_kinded (Some (next label)) = true
is_body_kinded (Some (forget e)) = is_kinded e
is_body_kinded (Some (resume e)) = is_kinded e
is_body_kinded (Some (stash names)) = true
is_body_kinded (Some (retrieve names)) = true
is_body_kinded (Some (ignore names)) = true
is_body_kinded (Some (remember names)) = true
is_body_kinded (Some (abstain_label label)) = true
is_body_kinded (Some (abstain_kinds gerunds)) = true
is_body_kinded (Some (reinstate_label label)) = true
is_body_kinded (Some (reinstate_kinds gerunds)) = true
is_body_kinded (Some give_up) = true
is_body_kinded (Some (write_in places)) = list_all is_item_kinded places
is_body_kinded (Some (read_out items)) = list_all is_item_kinded items

abbrev pub is_statement_kinded : StatementTree → Bool
is_statement_kinded statement = is_body_kinded statement.body
