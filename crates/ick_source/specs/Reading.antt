-- For private contracts: what is found by reading a grammar from a position on. It is what the grammar says is there.
use Rattle.std.specs.Prelude.{ℕ, zero, suc, ◌+◌, ◌-◌, ◌*◌, nat_lt, if◌then◌else◌, Bool, true, false}
use Rattle.std.specs.Prelude.{List, [], ◌∷◌, length, Option, Some, None}
use Rattle.ick_source.specs.Position.{past_white, next_lead, past_lead}
use Rattle.ick_source.specs.Token.{is_digit, begins_number}
use Rattle.ick_source.specs.Grammar.{Grammar, Further, past_word, yields, nothing, sequence, word, number, sign}
use Rattle.ick_source.specs.Grammar.{next, looks, repeated}

-- a value, and the characters left after it
pub record Found (A : Type 0) : Type 0 where
  pub value : A
  pub left : List ℕ

abbrev pub Finding : Type 0 → Type 0
Finding A = Option (Found A)

abbrev pub and_then : {A B : Type 0} → Finding A → (A → List ℕ → Finding B) → Finding B
and_then None f = None
and_then (Some r) f = f r.value r.left

abbrev pub as_found : {A : Type 0} → A → Option (List ℕ) → Finding A
as_found x None = None
as_found x (Some l) = Some (record { value = x; left = l })

unfoldable pub digits_of : List ℕ → List ℕ
digits_of [] = []
digits_of (b ∷ bs) = if is_digit b then b ∷ digits_of bs else []

unfoldable pub past_digits : List ℕ → List ℕ
past_digits [] = []
past_digits (b ∷ bs) = if is_digit b then past_digits bs else b ∷ bs

-- the number that digits go on to from the one before them
unfoldable pub value_after : ℕ → List ℕ → ℕ
value_after n [] = n
value_after n (d ∷ ds) = value_after (n * 10 + (d - 48)) ds

abbrev pub number_in : List ℕ → Finding ℕ
number_in l =
    if begins_number l then Some (record { value = value_after 0 (digits_of l); left = past_digits l }) else None

abbrev pub is_there : Option (List ℕ) → Bool
is_there None = false
is_there (Some l) = true

abbrev pub join : {A : Type 0} → A → Finding (List A) → Finding (List A)
join x None = None
join x (Some r) = Some (record { value = x ∷ r.value; left = r.left })

abbrev pub turn_further : {A : Type 0} → (List ℕ → Finding (List A)) → List ℕ → Found A → Option (List ℕ) →
    Finding (List A)
turn_further again from r None = Some (record { value = r.value ∷ []; left = r.left })
turn_further again from r (Some later) =
    if nat_lt (length later) (length from) then join r.value (again later) else None

abbrev pub turn_on : {A : Type 0} → (List ℕ → Finding (List A)) → Further → List ℕ →
    Finding A → Finding (List A)
turn_on again further from None = None
turn_on again further from (Some r) = turn_further again from r (further from r.left)

-- the number bounds the turns, and each turn takes a character
unfoldable pub turns : {A : Type 0} → ℕ → (List ℕ → Finding A) → Further → List ℕ →
    Finding (List A)
turns zero part further from = None
turns (suc n) part further from = turn_on (turns n part further) further from (part from)

unfoldable pub read : {A : Type 0} → Grammar A → List ℕ → Finding A
read (yields a) from = Some (record { value = a; left = from })
read (nothing w) from = None
read (sequence g f) from = and_then (read g from) (λ a mid. read (f a) mid)
read (word w) from = as_found tt (past_word w (past_white from))
read number from = number_in (past_white from)
read sign from = Some (record { value = next_lead from; left = past_lead from })
read next from = Some (record { value = next_lead from; left = from })
read (looks w) from = Some (record { value = is_there (past_word w (past_white from)); left = from })
read (repeated g further) from = turns (suc (length from)) (read g) further from
