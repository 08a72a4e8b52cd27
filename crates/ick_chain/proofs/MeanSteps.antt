-- Proves that the mean of the first node is that of the runs of a program.
use Rattle.std.proofs.Common.{◌≡◌, ℕ, ◌<◌, List, Some, length, slice_get, slice_index_or, subst, arith}
use Rattle.ick_code.specs.meaning.State.{State}
use Rattle.ick_outcomes.specs.Programs.{Program}
use Rattle.ick_numbers.specs.declared.natural.Natural.{Natural}
use Rattle.ick_chain.specs.declared.chain.Node.{Node}
use Rattle.ick_chain.specs.declared.chain.Node.TheVariants.{Ends}
use Rattle.ick_chain.specs.Means.{FitAll, IsFirst, IsMeanOf, IsPinned}
use Rattle.ick_chain.specs.Places.{IsFull, state_or}
use Rattle.ick_chain.proofs.Fitting.{exact_means}
use Rattle.ick_chain.proofs.Placing.{chain_of, first_is}
use Rattle.ick_chain.proofs.RowLaws.{got_at}

pub mean_of : (p : Program) (states : List State) (s : State) (nodes : List Node) (d steps : ℕ)
    (means : List Natural) → IsFull p states nodes → slice_get states 0 ≡ Some s → FitAll nodes d means → 0 < d →
    IsFirst means steps → IsMeanOf p s d steps
mean_of p states s nodes d steps means full begins fit some first =
    let lt = first.some in
    let long = fit.long in
    let within : 0 < length nodes = omega (arith, lt, long) in
    let x = exact_means p (state_or s states) nodes (chain_of p states nodes s full) d means fit in
    record {
      some = some;
      most = x.0;
      pinned = λ l.
          subst (λ z. IsPinned p d x.0 z steps l) (first_is states s s begins)
          (subst (λ z. IsPinned p d x.0 (state_or s states 0) z l) first.same
          (x.1 (slice_index_or nodes 0 Ends) 0 l (got_at nodes 0 Ends within)));
    }
