-- States the laws of all runs, listings and texts.
use Rattle.std.specs.Prelude.{◌≡◌, ◌⊎◌, ◌<◌, ◌≤◌, ◌^◌, ℕ, Bool, List, Option, length}
use Rattle.ick_code.specs.meaning.State.{State}
use Rattle.ick_backtrack.specs.Machine.{Program}
use Rattle.ick_explorer.specs.Runs.{run, IsWhole}
use Rattle.ick_explorer.specs.Order.{IsBelow}
use Rattle.ick_explorer.specs.Listings.{IsListing}
use Rattle.ick_explorer.specs.ChoiceTexts.{choices_text, IsTextOf}

-- a run makes at most as many steps as its limit, and so asks at most as many choices
pub record AreLimited (p : Program) (s : State) (limit : ℕ) : Type 0 where
  pub steps : (c : List Bool) → (run p s limit c).steps ≤ limit
  pub choices : (c : List Bool) → IsWhole p s limit c → length c ≤ limit

-- two whole lists are equal, or one is below the other
abbrev pub AreOrdered : Program → State → ℕ → Type 0
AreOrdered p s limit = (c d : List Bool) → IsWhole p s limit c → IsWhole p s limit d →
    (c ≡ d) ⊎ (IsBelow c d ⊎ IsBelow d c)

-- no list is below itself, and the order is transitive
pub record IsOrder (IsLess : List Bool → List Bool → Type 0) : Type 0 where
  pub strict : (c : List Bool) → ¬ IsLess c c
  pub transitive : (c d e : List Bool) → IsLess c d → IsLess d e → IsLess c e

-- a position has a listing, and any other listing is equal
pub record HasOneListing (p : Program) (s : State) (limit : ℕ) (from : Option (List Bool)) : Type 0 where
  pub some : (cs : List (List Bool)) × IsListing p s limit from cs
  pub unique : (cs ds : List (List Bool)) → IsListing p s limit from cs → IsListing p s limit from ds → cs ≡ ds

-- the printed text of a list that a memory can hold reads as that list, and a text reads as at most one list
pub record ReadsBack : Type 0 where
  pub printed : (c : List Bool) → length c < 2 ^ 64 → IsTextOf (choices_text c) c
  pub unique : (text : List ℕ) (c d : List Bool) → IsTextOf text c → IsTextOf text d → c ≡ d
