-- Proves that equal states have the same number.
use Rattle.std.proofs.Common.{◌≡◌, ℕ, map, refl}
use Rattle.ick_marks.specs.declared.saved.Saved.{Saved}
use Rattle.ick_states.specs.Alike.{AreAlike}
use Rattle.ick_states.specs.Hashed.{mix, mix_all, mix_array, mix_arrays, mix_bits, mix_bytes, mix_numbers, mix_places}
use Rattle.ick_states.specs.Hashed.{mix_saved}

pub same_number : (long : ℕ) (p q : Saved) → AreAlike long p q → mix_saved long p ≡ mix_saved long q
same_number long p q h = λ i.
    let numbers = mix_numbers (mix_numbers (mix 0 (h.place i)) (h.numbers i)) (h.store_target i) in
    let returns = mix_numbers (mix_places numbers 0 (h.abstained i)) (h.returns i) in
    let arrays = mix_bits (mix_arrays returns (h.rest.arrays i)) (h.rest.hidden i) in
    let scalars = mix_all mix_numbers arrays (h.rest.scalar_stashes i) in
    let stashes = mix_all mix_arrays scalars (h.rest.array_stashes i) in
    mix (mix (mix (mix_bytes stashes (h.rest.output i)) (h.rest.last i)) (h.rest.lastin i)) (h.rest.taken i)
