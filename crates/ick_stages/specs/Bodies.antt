-- Bodies of statements in one writing: `.1 <- (.2 $ #3)`, `,1 <- #3 BY #4`, `(20) NEXT`, `READ OUT .1 + (,1 SUB #2)`.
use Rattle.std.specs.Prelude.{ℕ, List, [], ◌∷◌, ◌++◌, codes, decimal, Option, Some, None}
use Rattle.std.specs.List.{flat_map}
use Rattle.ick_inspect.specs.Names.{name_text}
use Rattle.ick_stages.specs.Trees.{tree_text}
use Rattle.ick_syntax.specs.BodyTree.{BodyTree, ItemTree, single, whole, calculate, dimension, next, forget, resume}
use Rattle.ick_syntax.specs.BodyTree.{stash, retrieve, ignore, remember, abstain_label, abstain_kinds}
use Rattle.ick_syntax.specs.BodyTree.{reinstate_label, reinstate_kinds, give_up, write_in, read_out}
use Rattle.ick_syntax.specs.Gerund.{gerund_word, second_word}
use Rattle.ick_syntax.specs.declared.body.Gerund.{Gerund}

abbrev pub second_text : Option (List ℕ) → List ℕ
second_text None = []
second_text (Some word) = codes " " ++ word

unfoldable pub gerund_text : Gerund → List ℕ
gerund_text g = gerund_word g ++ second_text (second_word g)

unfoldable pub label_text : ℕ → List ℕ
label_text label = codes "(" ++ decimal label ++ codes ")"

abbrev pub item_text : ItemTree → List ℕ
item_text (single t) = tree_text t
item_text (whole name) = name_text name

-- the texts of the parts of a list, with a separator between each two
abbrev pub joined_text : {A : Type 0} → (separator : List ℕ) → (A → List ℕ) → List A → List ℕ
joined_text separator words [] = []
joined_text separator words (x ∷ xs) = words x ++ flat_map (λ y. separator ++ words y) xs

abbrev pub summed_text : {A : Type 0} → (A → List ℕ) → List A → List ℕ
summed_text words xs = joined_text (codes " + ") words xs

abbrev pub some_text : BodyTree → List ℕ
some_text (calculate t e) = tree_text t ++ codes " <- " ++ tree_text e
some_text (dimension name es) = name_text name ++ codes " <- " ++ joined_text (codes " BY ") tree_text es
some_text (next label) = label_text label ++ codes " NEXT"
some_text (forget e) = codes "FORGET " ++ tree_text e
some_text (resume e) = codes "RESUME " ++ tree_text e
some_text (stash names) = codes "STASH " ++ summed_text name_text names
some_text (retrieve names) = codes "RETRIEVE " ++ summed_text name_text names
some_text (ignore names) = codes "IGNORE " ++ summed_text name_text names
some_text (remember names) = codes "REMEMBER " ++ summed_text name_text names
some_text (abstain_label label) = codes "ABSTAIN FROM " ++ label_text label
some_text (abstain_kinds gerunds) = codes "ABSTAIN FROM " ++ summed_text gerund_text gerunds
some_text (reinstate_label label) = codes "REINSTATE " ++ label_text label
some_text (reinstate_kinds gerunds) = codes "REINSTATE " ++ summed_text gerund_text gerunds
some_text give_up = codes "GIVE UP"
some_text (write_in places) = codes "WRITE IN " ++ summed_text item_text places
some_text (read_out items) = codes "READ OUT " ++ summed_text item_text items

-- `-` if it is unrecognised
abbrev pub body_text : Option BodyTree → List ℕ
body_text None = codes "-"
body_text (Some body) = some_text body
