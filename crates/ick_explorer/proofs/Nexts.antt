-- What an explorer's calls answer, for each state that it stands at.
use Rattle.std.proofs.Common.{◌≡◌, ◌+◌, ◌<◌, ◌≤◌, ℕ, Bool, true, false, List, [], ◌∷◌, length, sym}
use Rattle.std.proofs.Common.{ap, ◌∙◌, subst, arith}
use Rattle.std.specs.Prelude.{Option, Some, None, IfSome}
use Rattle.ick_code.specs.meaning.State.{State}
use Rattle.ick_backtrack.specs.Asked.{Finish, finish_of}
use Rattle.ick_explorer.specs.declared.run.Run.{Run}
use Rattle.ick_explorer.specs.Runs.{run, ends, IsWhole}
use Rattle.ick_explorer.specs.Order.{IsAfter}
use Rattle.ick_explorer.specs.Listings.{IsLast, IsLeastAfter, zeros_in}
use Rattle.ick_explorer.specs.Paths.{AllOnes}
use Rattle.ick_explorer.specs.Standing.{Explored, Stands, StandsFrom, Gives, shared_from, zeros_of}
use Rattle.ick_explorer.specs.Walks.{Reaches}
use Rattle.ick_explorer.proofs.RunLaws.{whole-short}
use Rattle.ick_explorer.proofs.Orders.{last-ones}
use Rattle.ick_explorer.proofs.Further.{has_first, has_next}

ones_of : (c : List Bool) → zeros_in c ≡ 0 → AllOnes c
ones_of [] e = tt
ones_of (true ∷ c) e = ones_of c e
ones_of (false ∷ c) e = absurd (omega arith)

-- after a list without zeros there is nothing
pub last_at : (e : Explored) (c : List Bool) (s : State) → e.from ≡ Some c → zeros_in c ≡ 0 →
    IsLast e.program s e.limit e.from
last_at e c s f z = subst (IsLast e.program s e.limit) (sym f) (last-ones e.program s e.limit c (ones_of c z))

-- where a mark is kept there is a next run
pub more_given : (e : Explored) (c : List Bool) (s : State) → e.from ≡ Some c → 0 < zeros_in c → Stands s e →
    (d : List Bool) × IsWhole e.program s e.limit d × IsAfter e.from d
more_given e c s f lt h =
    let at : StandsFrom e.program s e.limit (Some c) e.present e.marks e.points =
    subst (λ x. StandsFrom e.program s e.limit x e.present e.marks e.points) f h.at_position in
    let n = has_next e.program s e.limit c at.whole lt in
    (n.0, n.1, subst (λ x. IsAfter x n.0) (sym f) n.2)

-- before all runs there is a first one
pub more_first : (e : Explored) (s : State) →
    e.from ≡ None → (d : List Bool) × IsWhole e.program s e.limit d × IsAfter e.from d
more_first e s f = let z = has_first e.program s e.limit in (z.0, z.2, subst (λ x. IsAfter x z.0) (sym f) tt)

zeros-few : (c : List Bool) → zeros_in c ≤ length c
zeros-few [] = omega arith
zeros-few (true ∷ c) = let n = zeros-few c in omega arith
zeros-few (false ∷ c) = let n = zeros-few c in omega arith

-- there are no more marks than the limit
pub few_points : (e : Explored) (s : State) → Stands s e → zeros_of e.from ≤ e.limit
few_points e s h = by e.from h.at_position
  where
    by : (from : Option (List Bool)) → StandsFrom e.program s e.limit from e.present e.marks e.points →
        zeros_of from ≤ e.limit
    by None k = omega arith
    by (Some c) k = let n = whole-short e.program s e.limit c k.whole in let m = zeros-few c in omega arith

-- .. and no more points than choices
pub few_of_choices : (from : Option (List Bool)) (n : ℕ) → n ≡ zeros_of from →
    IfSome from (λ c. n ≤ length c)
few_of_choices None n e = tt
few_of_choices (Some c) n e = let h = zeros-few c in omega arith

-- a copy of the run that an explorer has moved to
pub gives : (s : State) (old new : Explored) (c : List Bool) (n : ℕ) (f : Finish) (r : Run) →
    Reaches s old new c n f → r.choices.items ≡ c → r.output.items ≡ new.present.output →
    finish_of r.end ≡ f → r.steps ≡ n → Gives s old r new
gives s old new c n f r h choices output end steps =
    let i : run old.program s old.limit r.choices.items
    ≡ record { last = new.present; stop = ends f; steps = n; unused = [] } =
    ap (run old.program s old.limit) choices ∙ h.arrives.is in
    record {
      least = subst (IsLeastAfter old.program s old.limit old.from) (sym choices) h.least;
      is_run = record {
        output = output ∙ sym (ap (λ x. x.last.output) i);
        stop = ap (λ x. x.stop) i ∙ ap ends (sym end);
        steps = steps ∙ sym (ap (λ x. x.steps) i);
      };
      position = h.position ∙ ap Some (sym choices);
      stands = h.stands;
      work =
          ap (λ x. new.work + shared_from old.program s old.limit old.from x) choices
          ∙ (h.work ∙ ap (λ k. old.work + k) (sym steps));
    }
