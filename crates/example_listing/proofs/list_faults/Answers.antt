use Rattle.std.proofs.Common.{ℕ, ◌≡◌, ◌++◌, [], Bool, List, None, false, ap, ◌∙◌, subst}
use Rattle.ick_code.specs.meaning.State.{State}
use Rattle.ick_backtrack.specs.Machine.{Machine}
use Rattle.ick_explorer.specs.Listings.{IsListing}
use Rattle.ick_machine.specs.Seen.{trailed_machine}
use Rattle.ick_explorer.specs.Standing.{Explored, IsListingAt, Stands}
use Rattle.example_listing.specs.FaultLines.{fault_lines, most_steps}
use Rattle.example_listing.proofs.list_faults.Goals as goal

-- an explorer before the first run from a machine's state
abbrev begun : Machine → Explored
begun m = record {
  program = m.program;
  limit = most_steps;
  from = None;
  present = m.state;
  marks = [];
  points = [];
  work = m.work;
  failed = false;
}

-- what was appended to no lines by an explorer that began with a machine
lines_are : (e : Explored) (m made : Machine) (out lines : List ℕ) → e ≡ begun m → m ≡ made → lines ≡ [] →
    Stands m.state e →
    ((s : State) (cs : List (List Bool)) → Stands s e → IsListingAt s e cs →
    out ≡ lines ++ fault_lines e.program s e.limit cs) → (cs : List (List Bool)) →
    IsListing made.program made.state most_steps None cs → out ≡ fault_lines made.program made.state most_steps cs
lines_are e m made out lines e_is made_is none stands appended cs listing =
    let is : e ≡ begun made = e_is ∙ ap begun made_is in
    let there : Stands made.state (begun made) =
    subst (Stands made.state) is (subst (λ x. Stands x.state e) made_is stands) in
    let says = subst
    (λ x. (s : State) (ds : List (List Bool)) → Stands s x → IsListingAt s x ds →
    out ≡ lines ++ fault_lines x.program s x.limit ds) is appended in
    subst (λ l. out ≡ l ++ fault_lines made.program made.state most_steps cs) none (says made.state cs there listing)

pub returns : goal.returns
returns c =
    lines_are _ (trailed_machine c.in_ok-machine.machine) _ _ _ c.start-explorer.ensures.start c.in_ok-machine.ensures c.new-lines.ensures.items
    c.start-explorer.ensures.stands c.in_ok-append_faults.ensures
