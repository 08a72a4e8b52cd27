-- What a feed gives is what the input begins with.
use Rattle.std.proofs.Common.{◌≡◌, ◌≢◌, ℕ, ◌+◌, ◌==◌, Bool, true, false, List, [], ◌∷◌, ◌++◌, length, take, rules, drop}
use Rattle.std.proofs.{Common.{Option, Some, None, Result, Ok, Err, refl, sym, ap, ◌∙◌, arith}, lemmas.Bool.false≢true}
use Rattle.std.{proofs.Math.Seq.{take-append_seam, drop-append-add, get_or-append_seam}, specs.List.position_or_len}
use Rattle.std.{proofs.lemmas.List.{length-append, length-take, get_or_append_left}, specs.Prelude.slice_range}
use Rattle.std.proofs.lemmas.List.Sums.{position_or_len_is, fails_before_first}
use Rattle.ick_bits.specs.{Digits.line_answer, declared.digits.DigitFault.{DigitFault, TheVariants.{Word, TooLarge}}}
use Rattle.ick_bits.specs.declared.faults.FaultKind.TheVariants.{NoDigit}
use Rattle.ick_code.specs.{meaning.State.State, meaning.Completion.Completion, meaning.Completion.faults}
use Rattle.ick_code.specs.meaning.InputOutput.{with_input, with_number, first_line, later_lines}
use Rattle.ick_runtime.specs.{Inputs.Input}
use Rattle.ick_engine.specs.{declared.reader.Line.Line, Reads.{IsNext, IsByte, line_outcome, number_outcome}}
use Rattle.ick_engine.specs.Feeds.{has_ended, input_after, MayBeLeft}
use Rattle.ick_devices.specs.declared.feed_fault.FeedFault.{FeedFault}

-- a line without an end in it is the first line of itself, an end and more
module _ (line rest : List ℕ) (one : first_line line ≡ line) where
  size_before : position_or_len (λ b. b == 10) (line ++ 10 ∷ rest) ≡ length line
  size_before =
      let p : ℕ → Bool = λ b. b == 10 in
      let whole : length line ≡ length (take (position_or_len p line) line) = ap length (sym one) in
      let size = length-take (position_or_len p line) line in
      let long = length-append line (10 ∷ rest) in
      position_or_len_is p (line ++ 10 ∷ rest) (length line) 0 (omega (arith, long))
      (λ k lt. ap p (get_or_append_left line (10 ∷ rest) 0 k lt)
      ∙ fails_before_first p line k 0 (omega (arith, whole, size, lt)))
      (λ lt. ap p (get_or-append_seam line 10 rest 0))

  front_is : line ≡ first_line (line ++ 10 ∷ rest)
  front_is = sym (ap (λ k. take k (line ++ 10 ∷ rest)) size_before ∙ take-append_seam line (10 ∷ rest))

  rest_is : rest ≡ later_lines (line ++ 10 ∷ rest)
  rest_is = sym (ap (λ k. drop (k + 1) (line ++ 10 ∷ rest)) size_before ∙ drop-append-add line (10 ∷ rest) 1)

not_empty : (line rest : List ℕ) → line ++ 10 ∷ rest ≢ []
not_empty [] rest e = cc
not_empty (b ∷ line) rest e = cc

-- a line that was taken, after which the input goes on at a position
abbrev pub taken : List ℕ → ℕ → Option Line
taken line from = Some (record { number = line_answer line; next = from })

-- what comes of it
module _ (after : Input) (line : List ℕ) (from : ℕ)
    (word : (begin end : ℕ) → after.word begin end ≡ slice_range line begin end) (s : State)
    (go : ℕ → State → Completion) where
  by_answer : (answer : Result ℕ DigitFault) → with_number line answer (record s { input = after.left from }) go
      ≡ number_outcome answer after (record s { input = after.left from }) go
  by_answer (Ok n) = refl
  by_answer (Err (Word begin end)) =
      ap (λ w. faults NoDigit w (record s { input = after.left from })) (sym (word begin end))
  by_answer (Err TooLarge) = refl

  line_taken : (left : List ℕ) → left ≢ [] → line ≡ first_line left → after.left from ≡ later_lines left →
      with_input left s go ≡ line_outcome (taken line from) after from s go
  line_taken [] some is rest = absurd (some refl)
  line_taken (b ∷ bs) some is rest = search (rules, by_answer)

module _ (before after : Input) (from : ℕ) where
  next_line : (line : List ℕ) → ((begin end : ℕ) → after.word begin end ≡ slice_range line begin end) →
      before.left from ≢ [] → line ≡ first_line (before.left from) →
      after.left from ≡ later_lines (before.left from) →
      IsNext (taken line from) from before after
  next_line line word some is rest = search (rules, line_taken)

  next_nothing : before.left from ≡ [] → after.left from ≡ [] → IsNext None from before after
  next_nothing none none_after = search rules

-- an input that a feed may have had before, where this was read and some may be left after it
abbrev pub Before : Bool → Bool → List ℕ → List ℕ → (Input → Type 0) → Type 0
Before told ended line left Read = (before : Input) × MayBeLeft told ended line left before × Read before

-- what a read came to, that found input before it
pub read_by : {told : Bool} {was : Result Bool FeedFault} (is at : Result Bool FeedFault) {old_line line old new : List ℕ}
    {Read : Input → Input → Type 0} → was ≡ Ok true → is ≡ at →
    ((after : Input) → MayBeLeft told (has_ended at) line new after →
    Before told false old_line old (λ before. Read before after)) →
    (after : Input) → MayBeLeft told (has_ended is) line new after →
    Before told (has_ended was) old_line old (λ before. Read before after)
read_by {told} is at {old_line} {line} {old} {new} {Read} begun came read after may = search rules

had : {told ended : Bool} → ended ≡ false → {old_line old : List ℕ} (left : List ℕ) → (told ≡ true → left ≡ old) →
    MayBeLeft told ended old_line old (input_after old_line left)
had goes_on left is = search (rules, false≢true)

-- what a feed gave that had not come to its end
module _ {told ended : Bool} (goes_on : ended ≡ false) {old_line line old new : List ℕ} {from : ℕ} where
  -- a line
  pub read_line : first_line line ≡ line →
      (told ≡ true → (old ≢ []) × (line ≡ first_line old) × (new ≡ later_lines old)) →
      (after : Input) → MayBeLeft told ended line new after →
      Before told ended old_line old (λ before. IsNext (taken line from) from before after)
  read_line one gave after may = cases told refl
    where
      cases : (tells : Bool) → told ≡ tells →
          Before told ended old_line old (λ before. IsNext (taken line from) from before after)
      cases true e =
          let is = gave e in
          let rest = may.told_left e from ∙ is.2 in (
            input_after old_line old,
            had goes_on old (λ tells. refl),
            next_line (input_after old_line old) after from line may.word is.0 is.1 rest,
          )
      cases false e =
          let rest = after.left from in
          let left = line ++ 10 ∷ rest in (
            input_after old_line left,
            had goes_on left (λ tells. absurd (false≢true (sym e ∙ tells))),
            next_line (input_after old_line left) after from line may.word
                (not_empty line rest) (front_is line rest one) (rest_is line rest one),
          )

  -- a byte
  pub read_byte : (b : ℕ) → (told ≡ true → old ≡ b ∷ new) → (after : Input) →
      MayBeLeft told ended line new after →
      Before told ended old_line old (λ before. IsByte (Some (b, from)) from before after)
  read_byte b gave after may = (
    input_after old_line (b ∷ after.left from),
    had goes_on (b ∷ after.left from) (λ tells. ap (λ l. b ∷ l) (may.told_left tells from) ∙ sym (gave tells)),
    refl,
  )

  -- nothing, so that it has come to its end
  pub read_no_byte : (told ≡ true → (old ≡ []) × (new ≡ [])) →
      (after : Input) → MayBeLeft told true line new after →
      Before told ended old_line old (λ before. IsByte None from before after)
  read_no_byte gave after may = (
    input_after old_line [],
    had goes_on [] (λ tells. sym (gave tells).0),
    (refl, may.none_left refl from),
  )

  pub read_nothing : (told ≡ true → (old ≡ []) × (new ≡ [])) →
      (after : Input) → MayBeLeft told true line new after →
      Before told ended old_line old (λ before. IsNext None from before after)
  read_nothing gave after may =
      let end = read_no_byte gave after may in (end.0, end.1, next_nothing end.0 after from end.2.0 end.2.1)
