-- Grammars of parts of a text. A grammar says which value is between which positions: the relation `stands`. The
-- positions `from` and `to` are the characters that are left there. A choice is made by the next character or word, so
-- a grammar has no two ways to go on.
use Rattle.std.specs.Prelude.{ℕ, nat_eq, if◌then◌else◌, Bool, true, false, ◌≡◌, ◌<◌, List, [], ◌∷◌, Option, Some, None}
use Rattle.std.specs.Prelude.{length, codes}
use Rattle.ick_source.specs.declared.lead.Lead.{Lead}
use Rattle.ick_source.specs.declared.wanted.Wanted.{Wanted}
use Rattle.ick_source.specs.Position.{past_white, next_lead, past_lead}
use Rattle.ick_source.specs.Token.{IsNumber, IsWord}

-- tells whether a further part follows one that is between two positions, and where it begins
abbrev pub Further : Type 0
Further = List ℕ → List ℕ → Option (List ℕ)

pub data Grammar : Type 0 → Type 1 where
  -- a value, and no characters
  yields : {A : Type 0} → A → Grammar A
  -- nowhere; this is wanted
  nothing : {A : Type 0} → Wanted → Grammar A
  -- a part, and a further part after it
  sequence : {A B : Type 0} → Grammar A → (A → Grammar B) → Grammar B
  -- this word
  word : List ℕ → Grammar (Unit {0})
  number : Grammar ℕ
  -- the next character
  sign : Grammar Lead
  -- what the next character is, and no characters
  next : Grammar Lead
  -- whether this word follows, and no characters
  looks : List ℕ → Grammar Bool
  -- one or more parts
  repeated : {A : Type 0} → Grammar A → Further → Grammar (List A)

infixl 10 ◌>>=◌
abbrev pub ◌>>=◌ : {A B : Type 0} → Grammar A → (A → Grammar B) → Grammar B
g >>= f = sequence g f

infixl 10 ◌>>◌
abbrev pub ◌>>◌ : {A B : Type 0} → Grammar A → Grammar B → Grammar B
g >> f = sequence g (λ _. f)

-- a part, if the test holds, else this is wanted
abbrev pub when : {A : Type 0} → Wanted → Bool → Grammar A → Grammar A
when w true g = g
when w false g = nothing w

-- the first part if the test holds, else the second
abbrev pub pick : {A : Type 0} → Bool → Grammar A → Grammar A → Grammar A
pick true g h = g
pick false g h = h

-- the one of these whose word follows; if none does, this is wanted
unfoldable pub among : {A : Type 0} → Wanted → (A → List ℕ) → List A → Grammar A
among w spelled [] = nothing w
among w spelled (x ∷ xs) = looks (spelled x) >>= λ b. pick b (word (spelled x) >> yields x) (among w spelled xs)

-- what is left after a word
unfoldable pub past_word : List ℕ → List ℕ → Option (List ℕ)
past_word [] l = Some l
past_word (c ∷ cs) [] = None
past_word (c ∷ cs) (b ∷ bs) = if nat_eq c b then past_word cs bs else None

-- a further part follows a separator, and begins after it
abbrev pub separator : List ℕ → Further
separator w from to = past_word w (past_white to)

-- one or more parts, separated by this word
unfoldable pub separated : {A : Type 0} → Grammar A → List ℕ → Grammar (List A)
separated g w = repeated g (separator w)

abbrev pub list_of : {A : Type 0} → Grammar A → Grammar (List A)
list_of g = separated g (codes "+")

abbrev pub Part : Type 0 → Type 1
Part A = List ℕ → List ℕ → A → Type 0

pub data IsRepeated (A : Type 0) (part : Part A) (further : Further) : List ℕ → List ℕ → List A → Type 0 where
  only : {from to : List ℕ} {x : A} →
      part from to x →
      further from to ≡ None →
      IsRepeated A part further from to (x ∷ [])
  and_more : {from mid later to : List ℕ} {x : A} {xs : List A} →
      part from mid x →
      further from mid ≡ Some later →
      length later < length from →
      IsRepeated A part further later to xs →
      IsRepeated A part further from to (x ∷ xs)

-- whether this word is at a position
pub data IsAhead (w from : List ℕ) : Bool → Type 0 where
  ahead : {after : List ℕ} → IsWord w from after → IsAhead w from true
  elsewhere : ((after : List ℕ) → IsWord w from after → ⊥) → IsAhead w from false

-- the value x is between the positions `from` and `to`
unfoldable pub stands : {A : Type 0} → Grammar A → List ℕ → List ℕ → A → Type 0
stands (yields a) from to x = (from ≡ to) × (a ≡ x)
stands (nothing w) from to x = ⊥
stands (sequence {A} g f) from to x = (mid : List ℕ) × (a : A) × (stands g from mid a) × (stands (f a) mid to x)
stands (word w) from to x = IsWord w from to
stands number from to x = IsNumber from to x
stands sign from to x = (next_lead from ≡ x) × (past_lead from ≡ to)
stands next from to x = (next_lead from ≡ x) × (from ≡ to)
stands (looks w) from to x = (IsAhead w from x) × (from ≡ to)
stands (repeated {A} g further) from to x = IsRepeated A (stands g) further from to x

-- it takes a character at least
abbrev pub Shorter : {A : Type 0} → Grammar A → Type 0
Shorter {A} g = (from to : List ℕ) (x : A) → stands g from to x → length to < length from
