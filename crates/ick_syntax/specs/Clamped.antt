-- Trees with clamped numbers, and the faults of numbers out of range.
use Rattle.std.specs.Prelude.{ℕ, Bool, false, ◌||◌, nat_lt, nat_eq, min}
use Rattle.ick_syntax.specs.declared.tree.Name.{Name}
use Rattle.ick_syntax.specs.declared.faults.Faults.{Faults}
use Rattle.ick_syntax.specs.Tree.{Tree, mesh, scalar, element, unary, binary, Trees, none, more}

-- the greatest number of a mesh, a variable and a label
abbrev pub greatest : ℕ
greatest = 65535

-- the number, or the greatest if it is greater
abbrev pub clamped : ℕ → ℕ
clamped n = min n greatest

abbrev pub clamped_name : Name → Name
clamped_name x = record { kind = x.kind; number = clamped x.number }

unfoldable mutual
  pub clamped_tree : Tree → Tree
  clamped_tree (mesh n) = mesh (clamped n)
  clamped_tree (scalar x) = scalar (clamped_name x)
  clamped_tree (element x ts) = element (clamped_name x) (clamped_trees ts)
  clamped_tree (unary o t) = unary o (clamped_tree t)
  clamped_tree (binary o a b) = binary o (clamped_tree a) (clamped_tree b)

  pub clamped_trees : Trees → Trees
  clamped_trees none = none
  clamped_trees (more t ts) = more (clamped_tree t) (clamped_trees ts)

abbrev pub no_faults : Faults
no_faults = record { mesh = false; name = false; label = false }

abbrev pub both_faults : Faults → Faults → Faults
both_faults a b = record { mesh = a.mesh || b.mesh; name = a.name || b.name; label = a.label || b.label }

-- the number of a mesh is above the greatest
abbrev pub mesh_faults : ℕ → Faults
mesh_faults n = record no_faults { mesh = nat_lt greatest n }

-- the number is 0 or above the greatest
abbrev pub is_outside : ℕ → Bool
is_outside n = nat_eq n 0 || nat_lt greatest n

abbrev pub name_faults : ℕ → Faults
name_faults n = record no_faults { name = is_outside n }

abbrev pub label_faults : ℕ → Faults
label_faults n = record no_faults { label = is_outside n }

unfoldable mutual
  pub faults_of : Tree → Faults
  faults_of (mesh n) = mesh_faults n
  faults_of (scalar x) = name_faults x.number
  faults_of (element x ts) = both_faults (name_faults x.number) (faults_in ts)
  faults_of (unary o t) = faults_of t
  faults_of (binary o a b) = both_faults (faults_of a) (faults_of b)

  pub faults_in : Trees → Faults
  faults_in none = no_faults
  faults_in (more t ts) = both_faults (faults_of t) (faults_in ts)
