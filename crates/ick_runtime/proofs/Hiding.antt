-- Arrays that are ignored.
use Rattle.std.proofs.Common.{Bool, false, get_or, List, rules, slice_set, ℕ, ◌≡◌}
use Rattle.ick_runtime.proofs.Names.{set-get_or, set-set, View, with_hidden}

-- what was hidden before
pub hidden_back : (v : View) (hidden : List Bool) (slot : ℕ) (on : Bool) → v.parts.hidden ≡ hidden →
    with_hidden (slice_set (slice_set hidden slot on) slot (get_or hidden slot false)) v ≡ v
hidden_back v hidden slot on same = search (rules, set-get_or, set-set)
