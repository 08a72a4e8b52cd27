-- A line that is read part by part is the first line of what was there, and no byte more was taken.
use Rattle.std.proofs.Common.{◌≡◌, ◌≢◌, ℕ, ◌==◌, Bool, true, false, not, List, [], ◌∷◌}
use Rattle.std.proofs.Common.{◌++◌, length, take, drop, ap, sym, ◌∙◌, arith, ◌+◌, ◌-◌, ◌<◌, ◌≤◌, refl, suc}
use Rattle.std.proofs.Common.{get_or, append_assoc, inl, inr}
use Rattle.std.proofs.lemmas.Bool.{cases_lt, ne_eqb}
use Rattle.std.proofs.lemmas.List.{get_or-take, length-take}
use Rattle.std.specs.List.{position_or_len}
use Rattle.std.proofs.Math.Seq.{take-append_seam, drop-append-add, take-length, take-suc, get_or-append_seam}
use Rattle.std.proofs.Math.Seq.{get_or-append_right}
use Rattle.std.proofs.lemmas.List.{append-nil, length-append, drop_all, get_or_append_left}
use Rattle.std.proofs.lemmas.List.Sums.{position_or_len_is}
use Rattle.std.specs.Prelude.{Result, Ok}
use Rattle.ick_code.specs.meaning.InputOutput.{first_line, later_lines}
use Rattle.ick_devices.specs.declared.feed_fault.FeedFault.{FeedFault}
use Rattle.ick_devices.specs.Feeds.{HasNoEnd}

place_of_end : (bytes rest : List ℕ) → HasNoEnd bytes →
    position_or_len (λ b. b == 10) (bytes ++ 10 ∷ rest) ≡ length bytes
place_of_end bytes rest h =
    let size = length-append bytes (10 ∷ rest) in
    position_or_len_is (λ b. b == 10) (bytes ++ 10 ∷ rest) (length bytes) 0 (omega arith)
    (λ k lt. ap (λ x. x == 10) (get_or_append_left bytes (10 ∷ rest) 0 k lt) ∙ h k lt)
    (λ lt. ap (λ x. x == 10) (get_or-append_seam bytes 10 rest 0))

no_place : (bytes : List ℕ) → HasNoEnd bytes → position_or_len (λ b. b == 10) bytes ≡ length bytes
no_place bytes h =
    position_or_len_is (λ b. b == 10) bytes (length bytes) 0 (omega arith) h (λ lt. absurd (omega arith))

-- bytes without an end are one line
pub one_line : (bytes : List ℕ) → HasNoEnd bytes → first_line bytes ≡ bytes
one_line bytes h = ap (λ k. take k bytes) (no_place bytes h) ∙ take-length bytes

not_nil : (bytes rest : List ℕ) (b : ℕ) → bytes ++ b ∷ rest ≢ []
not_nil [] rest b e = cc
not_nil (x ∷ bytes) rest b e = cc

-- these bytes are the first line of what was there, of which `new` is left
pub record IsLine (old bytes new : List ℕ) : Type 0 where
  pub some : old ≢ []
  pub line : bytes ≡ first_line old
  pub rest : new ≡ later_lines old

pub line_with_end : (old bytes now new : List ℕ) (b : ℕ) → old ≡ bytes ++ now → now ≡ b ∷ new →
    b ≡ 10 → HasNoEnd bytes → IsLine old bytes new
line_with_end old bytes now new b e f ten h =
    let whole : old ≡ bytes ++ 10 ∷ new = e ∙ ap (λ x. bytes ++ x) (f ∙ ap (λ x. x ∷ new) ten) in
    let at = place_of_end bytes new h in
    record {
      some = λ z. not_nil bytes new 10 (sym whole ∙ z);
      line = sym (ap first_line whole
          ∙ (ap (λ k. take k (bytes ++ 10 ∷ new)) at ∙ take-append_seam bytes (10 ∷ new)));
      rest = sym (ap later_lines whole
          ∙ (ap (λ k. drop (k + 1) (bytes ++ 10 ∷ new)) at ∙ drop-append-add bytes (10 ∷ new) 1));
    }

-- more bytes of a block, without a line end
pub no_end_more : (bytes block : List ℕ) (n : ℕ) → HasNoEnd bytes →
    ((k : ℕ) → k < n → get_or block k 0 ≢ 10) → HasNoEnd (bytes ++ take n block)
no_end_more bytes block n h none = λ k lt. elim (cases_lt k (length bytes)) [
  | inl less ↦ ap (λ x. x == 10) (get_or_append_left bytes (take n block) 0 k less) ∙ h k less
  | inr more ↦
      let place : k - length bytes < n =
      omega (arith, lt, length-append bytes (take n block), length-take n block) in
      ap (λ x. x == 10)
      (get_or-append_right bytes (take n block) k 0 more ∙ get_or-take n block (k - length bytes) 0 place)
      ∙ ne_eqb (get_or block (k - length bytes) 0) 10 (none (k - length bytes) place)
]

-- and a block whose last byte ends it
pub line_in_block : (old bytes now new block : List ℕ) (n : ℕ) → old ≡ bytes ++ now →
    now ≡ take n block ++ new → 0 < n → n ≤ length block → get_or block (n - 1) 0 ≡ 10 → HasNoEnd bytes →
    ((k : ℕ) → k + 1 < n → get_or block k 0 ≢ 10) → IsLine old (bytes ++ take (n - 1) block) new
line_in_block old bytes now new block n e f some within ten h none =
    let last : n ≡ suc (n - 1) = omega arith in
    let split : take n block ≡ take (n - 1) block ++ 10 ∷ [] =
    ap (λ k. take k block) last ∙ take-suc block (n - 1) 0 (omega arith)
    ∙ ap (λ b. take (n - 1) block ++ b ∷ []) ten in
    let whole : old ≡ bytes ++ take (n - 1) block ++ 10 ∷ new =
    e ∙ ap (λ x. bytes ++ x) (f ∙ ap (λ x. x ++ new) split ∙ append_assoc (take (n - 1) block) (10 ∷ []) new)
    ∙ sym (append_assoc bytes (take (n - 1) block) (10 ∷ new)) in
    line_with_end old (bytes ++ take (n - 1) block) (10 ∷ new) new 10 whole refl refl
    (no_end_more bytes block (n - 1) h (λ k lt. none k (omega arith)))

-- the bytes so far, with those of one more block
pub more_so_far : (old bytes now new block : List ℕ) (n : ℕ) → old ≡ bytes ++ now →
    now ≡ take n block ++ new → old ≡ bytes ++ take n block ++ new
more_so_far old bytes now new block n e f =
    e ∙ ap (λ x. bytes ++ x) f ∙ sym (append_assoc bytes (take n block) new)

-- no byte of a block ends the line, if its last doesn't
pub none_ends : (block : List ℕ) (n : ℕ) → ((k : ℕ) → k + 1 < n → get_or block k 0 ≢ 10) →
    get_or block (n - 1) 0 ≢ 10 → (k : ℕ) → k < n → get_or block k 0 ≢ 10
none_ends block n none last k lt = elim (cases_lt (k + 1) n) [
  | inl less ↦ none k less
  | inr more ↦ let same : n - 1 ≡ k = omega arith in λ e. last (ap (λ i. get_or block i 0) same ∙ e)
]

pub line_at_end : (old bytes now new : List ℕ) → old ≡ bytes ++ now → now ≡ [] → new ≡ [] →
    HasNoEnd bytes → bytes ≢ [] → IsLine old bytes new
line_at_end old bytes now new e none left h some =
    let whole : old ≡ bytes = e ∙ (ap (λ x. bytes ++ x) none ∙ append-nil bytes) in
    let at = no_place bytes h in
    record {
      some = λ z. some (sym whole ∙ z);
      line = sym (ap first_line whole ∙ one_line bytes h);
      rest = left ∙ sym (ap later_lines whole
          ∙ (ap (λ k. drop (k + 1) bytes) at ∙ drop_all (length bytes + 1) bytes (omega arith)));
    }

pub not_true : (b : Bool) → not b ≡ true → b ≡ false
not_true false e = refl
not_true true e = cc

pub ok_same : (a b : Bool) → (let x : Result Bool FeedFault = Ok a in x) ≡ Ok b → a ≡ b
ok_same a b e = cc

pub some_bytes : (bytes : List ℕ) (empty : Bool) → empty ≡ (length bytes == 0) → empty ≡ false →
    bytes ≢ []
some_bytes bytes empty e f z = let x : true ≡ false = sym (e ∙ ap (λ i. length i == 0) z) ∙ f in cc
