use Rattle.std.proofs.Common.{◌≡◌, ℕ, ◌+◌, length, take}
use Rattle.ick_numbers.specs.Values.{naturals}
use Rattle.ick_chain.specs.Chains.{dot}
use Rattle.ick_chain.specs.Counts.{handed}
use Rattle.ick_chain.proofs.counts.hand_all.Given as goal

abbrev pub invariant-nodes : goal.invariant-nodes
invariant-nodes l = record {
  same : length l.into.items ≡ length l.fn.into.items;
  handed : (u : ℕ → ℕ) → dot u (naturals l.into.items)
      ≡ dot u (naturals l.fn.into.items) + handed u (take l.at l.nodes) (naturals (take l.at l.counts));
}
