-- Turing text: an array of one dimension is printed and read as bytes, each as a distance on a tape from the last one
-- (Revised Manual, 5.2). An array without dimensions, or with more than one, is a fault before any byte.
use Rattle.std.specs.Prelude.{ℕ, zero, suc, ◌==◌, List, [], ◌∷◌, ◌++◌, drop, length}
use Rattle.std.specs.Prelude.{if◌then◌else◌}
use Rattle.ick_bits.specs.Tape.{tape_position, tape_difference, reversed_byte}
use Rattle.ick_bits.specs.declared.faults.FaultKind.TheVariants.{Hyperspace}
use Rattle.ick_syntax.specs.declared.tree.Name.{Name}
use Rattle.ick_code.specs.meaning.State.{State, Array}
use Rattle.ick_code.specs.meaning.Completion.{Completion, done, faults}
use Rattle.ick_code.specs.meaning.Store.{set_array}

-- the bytes that elements are printed as, if the tape is at `last`
abbrev pub tape_bytes : ℕ → List ℕ → List ℕ
tape_bytes last [] = []
tape_bytes last (v ∷ vs) = reversed_byte (tape_position last v) ∷ tape_bytes (tape_position last v) vs

-- the position of the tape after elements were printed
abbrev pub tape_after : ℕ → List ℕ → ℕ
tape_after last [] = last
tape_after last (v ∷ vs) = tape_after (tape_position last v) vs

-- the numbers that n elements get from the bytes of an input, if the last byte read was `lastin`; past its end 256
abbrev pub tape_numbers : ℕ → ℕ → List ℕ → List ℕ
tape_numbers zero lastin input = []
tape_numbers (suc n) lastin [] = 256 ∷ tape_numbers n lastin []
tape_numbers (suc n) lastin (b ∷ bs) = tape_difference lastin b ∷ tape_numbers n b bs

-- the last byte read after n more were wanted
abbrev pub last_read : ℕ → ℕ → List ℕ → ℕ
last_read zero lastin input = lastin
last_read (suc n) lastin [] = lastin
last_read (suc n) lastin (b ∷ bs) = last_read n b bs

-- the elements of an array are printed as bytes
abbrev pub print_array : Name → State → Completion
print_array name s =
    if length (s.arrays name).dimensions == 1
    then done (record s {
      output = s.output ++ tape_bytes s.last (s.arrays name).elements;
      last = tape_after s.last (s.arrays name).elements;
    })
    else faults Hyperspace [] s

-- n bytes of the input were taken
abbrev pub take_bytes : ℕ → State → State
take_bytes n s = record s { input = drop n s.input; lastin = last_read n s.lastin s.input }

-- the array with these elements
abbrev pub with_elements : Array → List ℕ → Array
with_elements array elements = record array { elements = elements }

-- each element of an array gets the number of a byte; an ignored array takes its bytes and stays as it is
abbrev pub read_array : Name → State → Completion
read_array name s =
    if length (s.arrays name).dimensions == 1
    then
    (let count = length (s.arrays name).elements in
    done (set_array name (with_elements (s.arrays name) (tape_numbers count s.lastin s.input)) (take_bytes count s)))
    else faults Hyperspace [] s
