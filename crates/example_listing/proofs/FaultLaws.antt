-- The lines of the runs that end by a fault grow run by run.
use Rattle.std.proofs.Common.{◌≡◌, ℕ, Bool, List, [], ◌∷◌, ◌++◌, refl, ap, sym, ◌∙◌, subst, append_assoc}
use Rattle.std.specs.Prelude.{Option, Some, None, IfSome, IfNone}
use Rattle.std.proofs.lemmas.List.{append-nil}
use Rattle.ick_code.specs.meaning.State.{State}
use Rattle.ick_backtrack.specs.Machine.{Program}
use Rattle.ick_backtrack.specs.Asked.{finish_of}
use Rattle.ick_explorer.specs.Runs.{run}
use Rattle.ick_explorer.specs.Listings.{IsListing}
use Rattle.ick_explorer.specs.Standing.{Explored, Stands, IsListingAt, IsAtLast, Gives, IsRunOf}
use Rattle.ick_explorer.specs.declared.run.Run.{Run}
use Rattle.ick_explorer.proofs.Existence.{listing_exists}
use Rattle.ick_explorer.proofs.ListingLaws.{listing_unique, listing-least, listing-last}
use Rattle.example_listing.specs.FaultLines.{fault_line, fault_line_at, fault_line_of, fault_lines}
use Rattle.example_listing.specs.Along.{IsAlong}

-- what is said of an option
pub some_of : {R : Type 0} (found : Option R) (r : R) (P : R → Type 0) → found ≡ Some r → IfSome found P → P r
some_of found r P e h = subst (λ x. IfSome x P) e h

pub none_of : {R : Type 0} (found : Option R) (P : Type 0) → found ≡ None → IfNone found P → P
none_of found P e h = subst (λ x. IfNone x P) e h

-- before the first run
pub along_first : (s : State) (cs : List (List Bool)) (old : Explored) (w : List ℕ) → Stands s old →
    IsListingAt s old cs → IsAlong s cs old old w w
along_first s cs old w h k =
    (cs, record { program = refl; limit = refl; stands = h; listing = k; text = refl })

-- the line of a run that the explorer gave
line_of_run : (p q : Program) (s : State) (l m : ℕ) (r : Run) → q ≡ p → m ≡ l → IsRunOf q s m r →
    fault_line_of p s l r.choices.items ≡ fault_line r.choices.items (finish_of r.end) r.output.items
line_of_run p q s l m r same_program same_limit h =
    let c = r.choices.items in
    ap (λ x. fault_line_of x s l c) (sym same_program)
    ∙ (ap (λ x. fault_line_of q s x c) (sym same_limit)
    ∙ (ap (λ x. fault_line_at c x (run q s m c).last.output) h.stop
    ∙ ap (λ x. fault_line c (finish_of r.end) x) (sym h.output)))

-- the listing after a run, from the explorer's position after it
listing_after : (s : State) (now new : Explored) (d : List Bool) (xs : List (List Bool)) →
    new.program ≡ now.program → new.limit ≡ now.limit → new.from ≡ Some d →
    IsListing now.program s now.limit (Some d) xs → IsListingAt s new xs
listing_after s now new d xs p l f k =
    subst (λ q. IsListing q s new.limit new.from xs) (sym p)
    (subst (λ q. IsListing now.program s q new.from xs) (sym l)
    (subst (λ q. IsListing now.program s now.limit q xs) (sym f) k))

-- after one more run
pub along_next : (s : State) (cs : List (List Bool)) (old now new : Explored) (w w' w'' : List ℕ) (r : Run) →
    IsAlong s cs old now w w' → Gives s now r new → new.program ≡ now.program → new.limit ≡ now.limit →
    w'' ≡ w' ++ fault_line r.choices.items (finish_of r.end) r.output.items → IsAlong s cs old new w w''
along_next s cs old now new w w' w'' r (rest, a) g p l grown =
    let c = r.choices.items in
    let lines = fault_lines old.program s old.limit in
    let line = fault_line c (finish_of r.end) r.output.items in
    let after = listing_exists now.program s now.limit (Some c) in
    let same : rest ≡ c ∷ after.0 =
    listing_unique now.program s now.limit now.from rest (c ∷ after.0) a.listing
    (listing-least now.program s now.limit now.from c after.0 g.least after.1) in
    let own : fault_line_of old.program s old.limit c ≡ line =
    line_of_run old.program now.program s old.limit now.limit r a.program a.limit g.is_run in (
      after.0,
      record {
        program = p ∙ a.program;
        limit = l ∙ a.limit;
        stands = g.stands;
        listing = listing_after s now new c after.0 p l g.position after.1;
        text = a.text
            ∙ (ap (λ x. w' ++ lines x) same
            ∙ (ap (λ x. w' ++ (x ++ lines after.0)) own
            ∙ (sym (append_assoc w' line (lines after.0))
            ∙ ap (λ x. x ++ lines after.0) (sym grown))));
      },
    )

-- after the last run
pub along_last : (s : State) (cs : List (List Bool)) (old now : Explored) (w w' : List ℕ) →
    IsAlong s cs old now w w' → IsAtLast s now → w' ≡ w ++ fault_lines old.program s old.limit cs
along_last s cs old now w w' (rest, a) h =
    let none : rest ≡ [] =
    listing_unique now.program s now.limit now.from rest [] a.listing
    (listing-last now.program s now.limit now.from h) in
    sym (append-nil w')
    ∙ (ap (λ x. w' ++ fault_lines old.program s old.limit x) (sym none) ∙ sym a.text)
