-- The marks of bodies, in the order of their operations.
use Rattle.std.specs.Prelude.{ℕ, ◌&&◌, not, Bool, true, false, List, [], ◌∷◌, ◌++◌, Some, None, codes}
use Rattle.ick_places.specs.declared.body.Member.{Member}
use Rattle.ick_places.specs.declared.body.Member.TheVariants as members
use Rattle.ick_places.specs.declared.mark.Mark.{Mark}
use Rattle.ick_places.specs.declared.mark.Part.{Part}
use Rattle.ick_places.specs.declared.mark.Part.TheVariants.{Variable, Mesh, Element, Listed, Gerund, Action, Name}
use Rattle.ick_places.specs.declared.mark.Part.TheVariants.{Label}
use Rattle.ick_places.specs.Expressions.{level_marks, indexing_marks}
use Rattle.ick_places.specs.Marks.{mark, past, repeated_marks}
use Rattle.ick_source.specs.declared.lead.Lead.{Lead}
use Rattle.ick_source.specs.declared.lead.Lead.TheVariants as leads
use Rattle.ick_source.specs.declared.verb.Verb.{Verb}
use Rattle.ick_source.specs.declared.verb.Verb.TheVariants as verbs'
use Rattle.ick_source.specs.BodyGrammar.{wholes, indices, names, named, labels, gerunds, place_by, places, items, calls}
use Rattle.ick_source.specs.BodyGrammar.{scalar_bodies, array_bodies, verbs}
use Rattle.ick_source.specs.Expression.{level}
use Rattle.ick_source.specs.Grammar.{Grammar, number, word, past_word, separator}
use Rattle.ick_source.specs.Position.{next_lead, past_lead, past_white}
use Rattle.ick_source.specs.Reading.{Finding, read, is_there}
use Rattle.ick_syntax.specs.declared.tree.NameKind.{NameKind}
use Rattle.ick_syntax.specs.NameKinds.{is_tail}

-- whether a word follows
abbrev pub is_ahead : List ℕ → List ℕ → Bool
is_ahead w from = is_there (past_word w (past_white from))

-- an expression outside groups
abbrev pub whole_marks : (text from : List ℕ) → List Mark
whole_marks text from = (level_marks text 256).expressions None from

-- SUB and the subscripts of an element outside groups
abbrev pub index_marks : (text from : List ℕ) → List Mark
index_marks text from = indexing_marks (level 255) (level_marks text 255) None from

-- what reads or prints; a value that is printed is an operand before
abbrev pub acted_marks : (text : List ℕ) → Part → (printed : Bool) → (from to : List ℕ) → List Mark
acted_marks text part true from to = mark text part from to ∷ mark text Action from to ∷ []
acted_marks text part false from to = mark text Action from to ∷ []

-- an array, whole or an element, after its name
abbrev pub array_place_marks : (text : List ℕ) → (printed whole : Bool) → (from behind to : List ℕ) → List Mark
array_place_marks text printed true from behind to = mark text Action from to ∷ []
array_place_marks text printed false from behind to =
    mark text Name from behind ∷ index_marks text behind ++ acted_marks text Element printed from to

abbrev pub place_marks_by : (text : List ℕ) → (printed : Bool) → (from : List ℕ) → Lead → List Mark
place_marks_by text printed from (leads.Spot kind) =
    acted_marks text Variable printed from (past (place_by (leads.Spot kind)) (past_lead from))
place_marks_by text printed from (leads.Array kind) =
    let behind = past (named kind) (past_lead from) in
    array_place_marks text printed (is_tail kind && not (is_ahead (codes "SUB") behind)) from behind
    (past (place_by (leads.Array kind)) (past_lead from))
place_marks_by text printed from _ = []

abbrev pub item_marks_by : (text : List ℕ) → (from : List ℕ) → Lead → List Mark
item_marks_by text from leads.Hash = acted_marks text Mesh true from (past number (past_lead from))
item_marks_by text from l = place_marks_by text true from l

-- a part of a list: the grammar of what it is, and its marks
pub record MemberKind : Type 1 where
  pub Value : Type 0
  pub grammar : Grammar Value
  pub marks : (text from : List ℕ) → List Mark

abbrev pub kind_of : Member → MemberKind
kind_of members.Expression = record { Value = _; grammar = wholes; marks = whole_marks }
kind_of members.Name = record {
  Value = _;
  grammar = names;
  marks = λ text from. mark text Listed from (past names from) ∷ [];
}
kind_of members.Gerund = record {
  Value = _;
  grammar = gerunds;
  marks = λ text from. mark text Gerund from (past gerunds from) ∷ [];
}
kind_of members.Place = record {
  Value = _;
  grammar = places;
  marks = λ text from. place_marks_by text false from (next_lead from);
}
kind_of members.Item = record {
  Value = _;
  grammar = items;
  marks = λ text from. item_marks_by text from (next_lead from);
}

-- one or more parts, with this word between them
unfoldable pub list_marks : (text : List ℕ) → Member → (w from : List ℕ) → List Mark
list_marks text member w from =
    repeated_marks (kind_of member).grammar ((kind_of member).marks text) (separator w) from

-- <- and an expression
unfoldable pub assigned_marks : (text from : List ℕ) → List Mark
assigned_marks text from = whole_marks text (past (word (codes "<-")) from)

-- the calculation of a variable, from its sigil on
unfoldable pub scalar_marks : (text : List ℕ) → NameKind → (from : List ℕ) → List Mark
scalar_marks text kind from =
    let inside = past_lead from in
    let behind = past (named kind) inside in
    mark text Name from behind ∷ assigned_marks text behind
    ++ mark text Action from (past (scalar_bodies kind) inside) ∷ []

-- what follows an array's name: the subscripts of a target are calculated after the value
abbrev pub target_marks : (text : List ℕ) → (sub : Bool) → (behind : List ℕ) → List Mark
target_marks text true behind = assigned_marks text (past indices behind) ++ index_marks text behind
target_marks text false behind = list_marks text members.Expression (codes "BY") (past (word (codes "<-")) behind)

-- the calculation of an element, or a dimensioning, from the array's sigil on
unfoldable pub array_marks : (text : List ℕ) → NameKind → (from : List ℕ) → List Mark
array_marks text kind from =
    let inside = past_lead from in
    let behind = past (named kind) inside in
    mark text Name from behind ∷ target_marks text (is_ahead (codes "SUB") behind) behind
    ++ mark text Action from (past (array_bodies kind) inside) ∷ []

-- a label and NEXT
unfoldable pub call_marks : (text from : List ℕ) → List Mark
call_marks text from = mark text Label from (past labels from) ∷ mark text Action from (past calls from) ∷ []

-- a label, or gerunds, of a body that begins at `from`
abbrev pub switch_marks : (text : List ℕ) → (bracket : Bool) → (from here : List ℕ) → List Mark
switch_marks text true from here =
    mark text Label here (past labels here) ∷ mark text Action from (past labels here) ∷ []
switch_marks text false from here = list_marks text members.Gerund (codes "+") here

-- the rest of a body that begins at `from`, after its verb
abbrev pub after_marks : (text : List ℕ) → Verb → (from here : List ℕ) → List Mark
after_marks text verbs'.Forget from here = whole_marks text here ++ mark text Action from (past wholes here) ∷ []
after_marks text verbs'.Resume from here = whole_marks text here ++ mark text Action from (past wholes here) ∷ []
after_marks text verbs'.Stash from here = list_marks text members.Name (codes "+") here
after_marks text verbs'.Retrieve from here = list_marks text members.Name (codes "+") here
after_marks text verbs'.Ignore from here = list_marks text members.Name (codes "+") here
after_marks text verbs'.Remember from here = list_marks text members.Name (codes "+") here
after_marks text verbs'.Abstain from here =
    let behind = past (word (codes "FROM")) here in switch_marks text (is_ahead (codes "(") behind) from behind
after_marks text verbs'.Reinstate from here = switch_marks text (is_ahead (codes "(") here) from here
after_marks text verbs'.Give from here = mark text Action from (past (word (codes "UP")) here) ∷ []
after_marks text verbs'.Write from here = list_marks text members.Place (codes "+") (past (word (codes "IN")) here)
after_marks text verbs'.Read from here = list_marks text members.Item (codes "+") (past (word (codes "OUT")) here)

abbrev pub verb_marks : (text from : List ℕ) → Finding Verb → List Mark
verb_marks text from None = []
verb_marks text from (Some r) = after_marks text r.value from r.left

abbrev pub worded_marks : (text : List ℕ) → (bracket : Bool) → (from : List ℕ) → List Mark
worded_marks text true from = call_marks text from
worded_marks text false from = verb_marks text from (read verbs from)

abbrev pub body_marks_by : (text from : List ℕ) → Lead → List Mark
body_marks_by text from (leads.Spot kind) = scalar_marks text kind from
body_marks_by text from (leads.Array kind) = array_marks text kind from
body_marks_by text from _ = worded_marks text (is_ahead (codes "(") from) from

-- a body
unfoldable pub body_marks : (text from : List ℕ) → List Mark
body_marks text from = body_marks_by text from (next_lead from)
