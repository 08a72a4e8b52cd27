-- Numbers and arrays that were printed, and arrays that were read. Each element of an array gives or takes a byte.
use Rattle.std.specs.Prelude.{ℕ, ◌≡◌, ◌≢◌, ◌++◌, false, drop, length, Result, Ok, Err, slice_set, if◌then◌else◌}
use Rattle.std.proofs.Common.{get_or}
use Rattle.ick_bits.specs.{declared.faults.FaultKind.TheVariants.Hyperspace, Numeral.numeral_of, Numeral.printed}
use Rattle.ick_code.specs.meaning.State.{Array}
use Rattle.ick_code.specs.meaning.Tape.{tape_bytes, tape_after, tape_numbers, last_read, with_elements}
use Rattle.ick_runtime.specs.{View.Parts, View.array_at, Inputs.Input, declared.halt.Halt.Halt}
use Rattle.ick_runtime.specs.declared.halt.Halt.TheVariants.{Fault, Word, NoMemory}

-- a number was printed, or memory ran out
abbrev pub IsNumberPrinted : Result (Unit {0}) Halt → (number : ℕ) → (old new : Parts) → Type 0
IsNumberPrinted (Ok u) number old new =
    new ≡ record old { output = old.output ++ printed (numeral_of number) }
IsNumberPrinted (Err NoMemory) number old new = new ≡ old
IsNumberPrinted (Err halt) number old new = ⊥

-- the parts after an array was printed
abbrev pub array_printed : Array → Parts → Parts
array_printed a parts = record parts {
  output = parts.output ++ tape_bytes parts.last a.elements;
  last = tape_after parts.last a.elements;
}

-- the array in a slot was printed, or it hasn't one dimension, or memory ran out
abbrev pub IsPrinted : Result (Unit {0}) Halt → (slot : ℕ) → (old new : Parts) → Type 0
IsPrinted (Ok u) slot old new =
    (length (array_at old slot).dimensions ≡ 1) × (new ≡ array_printed (array_at old slot) old)
IsPrinted (Err (Fault kind)) slot old new =
    (kind ≡ Hyperspace) × (length (array_at old slot).dimensions ≢ 1) × (new ≡ old)
IsPrinted (Err (Word from to)) slot old new = ⊥
IsPrinted (Err NoMemory) slot old new = new ≡ old

-- the parts after an array was read from an input, which goes on at a position
abbrev pub array_read : ℕ → Input → (to : ℕ) → Parts → Parts
array_read slot before to parts =
    let a = array_at parts slot in
    let count = length a.elements in
    record parts {
      arrays =
          if get_or parts.hidden slot false then parts.arrays
          else slice_set parts.arrays slot
          (with_elements a (tape_numbers count parts.lastin (before.left parts.taken)));
      taken = to;
      lastin = last_read count parts.lastin (before.left parts.taken);
    }

-- the array in a slot was read, or it hasn't one dimension
abbrev pub IsArrayRead : Result (Unit {0}) Halt → (slot : ℕ) → (old new : Parts) →
    (before after : Input) → Type 0
IsArrayRead (Ok u) slot old new before after =
    (length (array_at old slot).dimensions ≡ 1) × (new ≡ array_read slot before new.taken old)
    × (after.left new.taken ≡ drop (length (array_at old slot).elements) (before.left old.taken))
IsArrayRead (Err (Fault kind)) slot old new before after =
    (kind ≡ Hyperspace) × (length (array_at old slot).dimensions ≢ 1) × (new ≡ old) × (before ≡ after)
IsArrayRead (Err (Word from to)) slot old new before after = ⊥
IsArrayRead (Err NoMemory) slot old new before after = Unit {0}
