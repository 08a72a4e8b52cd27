use Rattle.std.proofs.Common.{◌≡◌, ℕ, ◌<◌, ◌≤◌, Bool, List, length, take, slice_index_or}
use Rattle.std.proofs.Common.{arith, sym}
use Rattle.ick_explorer.specs.Order.{IsBelow}
use Rattle.ick_outcomes.specs.Packed.{bits, choices_of}
use Rattle.ick_outcomes.specs.declared.choices.Choices.{Choices}
use Rattle.ick_outcomes.proofs.Packing.{below_behind, part, part_in, part_out}
use Rattle.ick_outcomes.proofs.choices.compare_behind.Goals as goal

-- the choices of the byte at an index
of_byte : {ws xs : List ℕ} {a : List Bool} {i n : ℕ} (l : List Bool) → i < n → n ≡ length ws →
    xs ≡ ws → a ≡ bits 8 (slice_index_or xs i 0) → a ≡ part ws l i
of_byte l lt n x e = part_in _ _ l _ 0 _ (omega (arith, lt, n)) x e

-- the choices behind the bytes
of_last : {l a : List Bool} {i n : ℕ} (ws : List ℕ) → n ≤ i → n ≡ length ws → a ≡ l →
    a ≡ part ws l i
of_last ws le n e = part_out ws _ _ _ (omega (arith, le, n)) e

-- the order of the choices behind so many equal bytes decides
decided : {A B : Type 0} {a b : List Bool} (c d : Choices) (i : ℕ) →
    record {
      one : i ≤ length c.packed.items;
      other : i ≤ length d.packed.items;
      same : take i c.packed.items ≡ take i d.packed.items;
    } →
    a ≡ part c.packed.items c.last.items i → b ≡ part d.packed.items d.last.items i →
    (A → IsBelow a b) → (B → IsBelow b a) →
    record {
      before : A → IsBelow (choices_of c) (choices_of d);
      behind : B → IsBelow (choices_of d) (choices_of c);
    }
decided c d i h p q below above = record {
  before = λ e. below_behind _ _ _ _ _ _ _ h.same h.one h.other p q (below e);
  behind = λ e. below_behind _ _ _ _ _ _ _ (sym h.same) h.other h.one q p (above e);
}

pub returns-then-at-len-2 : goal.returns-then-at-len-2
returns-then-at-len-2 c = decided c.args.one.now c.args.other.now c.args.at c.requires
    (of_byte _ c.if-at-len.true c.len.ensures.value c.deref.ensures c.unpack-byte.ensures)
    (of_byte _ c.if-at-len-2.true c.len-then-at-len.ensures.value c.deref-then-at-len-2.ensures
    c.unpack.ensures)
    c.compare.ensures.below c.compare.ensures.above

pub returns-then-at-len : goal.returns-then-at-len
returns-then-at-len c = decided c.args.one.now c.args.other.now c.args.at c.requires
    (of_byte _ c.if-at-len.true c.len.ensures.value c.deref.ensures c.unpack-byte.ensures)
    (of_last _ c.if-at-len-2.false c.len-then-at-len.ensures.value c.deref-then-at-len.ensures)
    c.compare-then-at-len.ensures.below c.compare-then-at-len.ensures.above

pub returns-then-at-len-3 : goal.returns-then-at-len-3
returns-then-at-len-3 c = decided c.args.one.now c.args.other.now c.args.at c.requires
    (of_last _ c.if-at-len.false c.len.ensures.value c.deref-then-at-len-3.ensures)
    (of_byte _ c.if-at-len-3.true c.len-2.ensures.value c.deref-then-at-len-3-2.ensures
    c.unpack-then-at-len-3.ensures)
    c.compare-then-at-len-3.ensures.below c.compare-then-at-len-3.ensures.above

pub returns : goal.returns
returns c = decided c.args.one.now c.args.other.now c.args.at c.requires
    (of_last _ c.if-at-len.false c.len.ensures.value c.deref-2.ensures)
    (of_last _ c.if-at-len-3.false c.len-2.ensures.value c.deref-3.ensures)
    c.compare-2.ensures.below c.compare-2.ensures.above
