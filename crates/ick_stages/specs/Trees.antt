-- Expressions with all their groups in parentheses: `(?(.1 $ .2) ~ (#0 $ #65535))`, `(,1 SUB .1 #2)`.
use Rattle.std.specs.Prelude.{ℕ, ◌≡◌, ◌<◌, ◌^◌, List, [], ◌++◌, codes, decimal}
use Rattle.ick_syntax.specs.declared.tree.Name.{Name}
use Rattle.ick_syntax.specs.declared.tree.UnaryOp.{UnaryOp}
use Rattle.ick_syntax.specs.declared.tree.UnaryOp.TheVariants.{And, Or, Xor}
use Rattle.ick_syntax.specs.declared.tree.BinaryOp.{BinaryOp}
use Rattle.ick_syntax.specs.declared.tree.BinaryOp.TheVariants.{Mingle, Select}
use Rattle.ick_syntax.specs.Tree.{Tree, mesh, scalar, element, unary, binary, Trees, none, more}
use Rattle.ick_inspect.specs.Names.{name_text}

abbrev pub unary_sign : UnaryOp → List ℕ
unary_sign And = codes "&"
unary_sign Or = codes "V"
unary_sign Xor = codes "?"

abbrev pub binary_sign : BinaryOp → List ℕ
binary_sign Mingle = codes " $ "
binary_sign Select = codes " ~ "

abbrev mutual
  pub tree_text : Tree → List ℕ
  tree_text (mesh n) = codes "#" ++ decimal n
  tree_text (scalar name) = name_text name
  tree_text (element array subs) = codes "(" ++ name_text array ++ codes " SUB" ++ subs_text subs ++ codes ")"
  tree_text (unary op t) = unary_sign op ++ tree_text t
  tree_text (binary op a b) = codes "(" ++ tree_text a ++ binary_sign op ++ tree_text b ++ codes ")"

  pub subs_text : Trees → List ℕ
  subs_text none = []
  subs_text (more t ts) = codes " " ++ tree_text t ++ subs_text ts

abbrev pub element_text : Name → Trees → List ℕ
element_text array subs = codes "(" ++ name_text array ++ codes " SUB" ++ subs_text subs ++ codes ")"

-- numbers of at most 64 bits, which all trees of programs have
abbrev mutual
  pub HasWords : Tree → Type 0
  HasWords (mesh n) = n < 2 ^ 64
  HasWords (scalar name) = name.number < 2 ^ 64
  HasWords (element array subs) = (array.number < 2 ^ 64) × HaveWords subs
  HasWords (unary op t) = HasWords t
  HasWords (binary op a b) = HasWords a × HasWords b

  pub HaveWords : Trees → Type 0
  HaveWords none = Unit {0}
  HaveWords (more t ts) = HasWords t × HaveWords ts

-- different trees have different texts
abbrev pub OneTree : Type 0
OneTree = (s t : Tree) → HasWords s → HasWords t → tree_text s ≡ tree_text t → s ≡ t
