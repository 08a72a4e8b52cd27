-- Bodies as trees, whose numbers may be of any size; the tree of a body of the program; and clamped bodies.
use Rattle.std.specs.Prelude.{ℕ, Option, Some, None, List, [], ◌∷◌, map}
use Rattle.ick_syntax.specs.declared.tree.Name.{Name}
use Rattle.ick_syntax.specs.declared.faults.Faults.{Faults}
use Rattle.ick_syntax.specs.declared.body.Gerund.{Gerund}
use Rattle.ick_syntax.specs.declared.body.Target.{Target}
use Rattle.ick_syntax.specs.declared.body.Target.TheVariants.{Scalar as TargetScalar, Element as TargetElement}
use Rattle.ick_syntax.specs.declared.body.Place.{Place}
use Rattle.ick_syntax.specs.declared.body.Place.TheVariants.{Scalar as PlaceScalar, Element as PlaceElement}
use Rattle.ick_syntax.specs.declared.body.Place.TheVariants.{Array as PlaceArray}
use Rattle.ick_syntax.specs.declared.body.Item.{Item}
use Rattle.ick_syntax.specs.declared.body.Item.TheVariants.{Scalar as ItemScalar, Element as ItemElement}
use Rattle.ick_syntax.specs.declared.body.Item.TheVariants.{Mesh as ItemMesh, Array as ItemArray}
use Rattle.ick_syntax.specs.declared.body.Body.{Body}
use Rattle.ick_syntax.specs.declared.body.Body.TheVariants.{Calculate, Dimension, Next, Forget, Resume, Stash, Retrieve}
use Rattle.ick_syntax.specs.declared.body.Body.TheVariants.{Ignore, Remember, AbstainLabel, AbstainKinds}
use Rattle.ick_syntax.specs.declared.body.Body.TheVariants.{ReinstateLabel, ReinstateKinds, GiveUp, WriteIn, ReadOut}
use Rattle.ick_syntax.specs.declared.body.Body.TheVariants.{Unrecognised}
use Rattle.ick_syntax.specs.Tree.{Tree, mesh, scalar, element, tree_of, trees_in}
use Rattle.ick_syntax.specs.Clamped.{clamped, clamped_name, clamped_tree, no_faults, both_faults, name_faults}
use Rattle.ick_syntax.specs.Clamped.{label_faults, faults_of}

-- a place of WRITE IN or an item of READ OUT: the tree of a scalar or an element, of a mesh for READ OUT alone, or the
-- name of a whole array
pub data ItemTree : Type 0 where
  single : Tree → ItemTree
  whole : Name → ItemTree

-- a body; targets are trees of scalars or elements
pub data BodyTree : Type 0 where
  calculate : Tree → Tree → BodyTree
  dimension : Name → List Tree → BodyTree
  next : ℕ → BodyTree
  forget : Tree → BodyTree
  resume : Tree → BodyTree
  stash : List Name → BodyTree
  retrieve : List Name → BodyTree
  ignore : List Name → BodyTree
  remember : List Name → BodyTree
  abstain_label : ℕ → BodyTree
  abstain_kinds : List Gerund → BodyTree
  reinstate_label : ℕ → BodyTree
  reinstate_kinds : List Gerund → BodyTree
  give_up : BodyTree
  write_in : List ItemTree → BodyTree
  read_out : List ItemTree → BodyTree

abbrev pub target_tree : Target → Tree
target_tree (TargetScalar x) = scalar x
target_tree (TargetElement e) = element e.array (trees_in e.subs.items)

abbrev pub place_tree : Place → ItemTree
place_tree (PlaceScalar x) = single (scalar x)
place_tree (PlaceElement e) = single (element e.array (trees_in e.subs.items))
place_tree (PlaceArray x) = whole x

abbrev pub item_tree : Item → ItemTree
item_tree (ItemScalar x) = single (scalar x)
item_tree (ItemElement e) = single (element e.array (trees_in e.subs.items))
item_tree (ItemMesh n) = single (mesh n)
item_tree (ItemArray x) = whole x

-- the tree of a recognised body
abbrev pub body_tree_of : Body → Option BodyTree
body_tree_of (Calculate t e) = Some (calculate (target_tree t) (tree_of e))
body_tree_of (Dimension x es) = Some (dimension x (map tree_of es.items))
body_tree_of (Next n) = Some (next n)
body_tree_of (Forget e) = Some (forget (tree_of e))
body_tree_of (Resume e) = Some (resume (tree_of e))
body_tree_of (Stash xs) = Some (stash xs.items)
body_tree_of (Retrieve xs) = Some (retrieve xs.items)
body_tree_of (Ignore xs) = Some (ignore xs.items)
body_tree_of (Remember xs) = Some (remember xs.items)
body_tree_of (AbstainLabel n) = Some (abstain_label n)
body_tree_of (AbstainKinds gs) = Some (abstain_kinds gs.items)
body_tree_of (ReinstateLabel n) = Some (reinstate_label n)
body_tree_of (ReinstateKinds gs) = Some (reinstate_kinds gs.items)
body_tree_of GiveUp = Some give_up
body_tree_of (WriteIn xs) = Some (write_in (map place_tree xs.items))
body_tree_of (ReadOut xs) = Some (read_out (map item_tree xs.items))
body_tree_of Unrecognised = None

abbrev pub clamped_item : ItemTree → ItemTree
clamped_item (single t) = single (clamped_tree t)
clamped_item (whole x) = whole (clamped_name x)

-- the body, clamped
abbrev pub clamped_body : BodyTree → BodyTree
clamped_body (calculate t e) = calculate (clamped_tree t) (clamped_tree e)
clamped_body (dimension x es) = dimension (clamped_name x) (map clamped_tree es)
clamped_body (next n) = next (clamped n)
clamped_body (forget e) = forget (clamped_tree e)
clamped_body (resume e) = resume (clamped_tree e)
clamped_body (stash xs) = stash (map clamped_name xs)
clamped_body (retrieve xs) = retrieve (map clamped_name xs)
clamped_body (ignore xs) = ignore (map clamped_name xs)
clamped_body (remember xs) = remember (map clamped_name xs)
clamped_body (abstain_label n) = abstain_label (clamped n)
clamped_body (abstain_kinds gs) = abstain_kinds gs
clamped_body (reinstate_label n) = reinstate_label (clamped n)
clamped_body (reinstate_kinds gs) = reinstate_kinds gs
clamped_body give_up = give_up
clamped_body (write_in xs) = write_in (map clamped_item xs)
clamped_body (read_out xs) = read_out (map clamped_item xs)

-- the faults of all members of a list
abbrev pub faults_along : {A : Type 0} → (A → Faults) → List A → Faults
faults_along f [] = no_faults
faults_along f (x ∷ xs) = both_faults (f x) (faults_along f xs)

abbrev pub faults_of_name : Name → Faults
faults_of_name x = name_faults x.number

abbrev pub faults_of_item : ItemTree → Faults
faults_of_item (single t) = faults_of t
faults_of_item (whole x) = faults_of_name x

abbrev pub faults_of_body : BodyTree → Faults
faults_of_body (calculate t e) = both_faults (faults_of t) (faults_of e)
faults_of_body (dimension x es) = both_faults (faults_of_name x) (faults_along faults_of es)
faults_of_body (next n) = label_faults n
faults_of_body (forget e) = faults_of e
faults_of_body (resume e) = faults_of e
faults_of_body (stash xs) = faults_along faults_of_name xs
faults_of_body (retrieve xs) = faults_along faults_of_name xs
faults_of_body (ignore xs) = faults_along faults_of_name xs
faults_of_body (remember xs) = faults_along faults_of_name xs
faults_of_body (abstain_label n) = label_faults n
faults_of_body (abstain_kinds gs) = no_faults
faults_of_body (reinstate_label n) = label_faults n
faults_of_body (reinstate_kinds gs) = no_faults
faults_of_body give_up = no_faults
faults_of_body (write_in xs) = faults_along faults_of_item xs
faults_of_body (read_out xs) = faults_along faults_of_item xs
