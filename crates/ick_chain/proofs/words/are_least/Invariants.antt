use Rattle.std.proofs.Common.{◌≡◌, ◌<◌, ℕ, Some, slice_get}
use Rattle.ick_chain.specs.Words.{IsLeastNode}
use Rattle.ick_chain.specs.declared.chain.Node.{Node}
use Rattle.ick_chain.proofs.words.are_least.Given as goal

abbrev pub invariant-nodes : goal.invariant-nodes
invariant-nodes l = (i : ℕ) (n : Node) → i < l.at → slice_get l.nodes i ≡ Some n → IsLeastNode l.labels i n
