-- A line of a text.
use Rattle.std.proofs.Common.{◌≡◌, ℕ, ◌+◌, ◌-◌, ◌==◌, ◌<◌, ◌≤◌, List, length, take, drop, sym, ap, ◌∙◌, arith}
use Rattle.std.proofs.{Common.{length-drop, rules, Ok, Err, Some, slice_range}, lemmas.Grind.common_steps}
use Rattle.std.{specs.List.position_or_len, proofs.lemmas.List.{drop-take, take-take, drop-drop, length-take}}
use Rattle.std.proofs.Math.Seq.{take-length}
use Rattle.ick_bits.specs.Digits.{line_answer}
use Rattle.ick_bits.specs.declared.digits.DigitFault.TheVariants as digit
use Rattle.ick_code.specs.{meaning.State.State, meaning.Completion.Completion, meaning.InputOutput.with_input, meaning.InputOutput.with_number}
use Rattle.ick_runtime.specs.Inputs.{input_of}
use Rattle.ick_engine.specs.Reads.{IsNext}

pub rest_of : (text : List ℕ) (from : ℕ) → take (length text - from) (drop from text) ≡ drop from text
rest_of text from = ap (λ n. take n (drop from text)) (sym (length-drop from text)) ∙ take-length (drop from text)

-- from a position on stands a line of n bytes
module _ (text rest : List ℕ) (from n : ℕ) (is : rest ≡ drop from text) (some : from < length text)
    (count : n ≡ position_or_len (λ b. b == 10) rest) where
  line_taken : (s : State) (go : ℕ → State → Completion) → s.input ≡ drop from text →
      with_input s.input s go
      ≡ with_number (take n rest) (line_answer (take n rest)) (record s { input = drop (from + n + 1) text }) go
  line_taken s go at = grind (arith, common_steps)

  word_of : (begin end : ℕ) → begin < end → end ≤ length (take n rest) →
      slice_range (take n rest) begin end ≡ slice_range text (from + begin) (from + end)
  word_of begin end more within =
      let inside : end ≤ n = omega (arith, within, length-take n rest) in
      let whole : n ≡ begin + (n - begin) = omega (arith, more, inside) in
      let size : end - begin ≡ from + end - (from + begin) = omega (arith, more) in
      rw (whole, drop-take, take-take (end - begin) (n - begin) (drop begin rest) (omega (arith, more, inside)), is, drop-drop begin from text, size)

  pub word_line : (begin end : ℕ) → Err (digit.Word begin end) ≡ line_answer (take n rest) → begin < end →
      end ≤ length (take n rest) →
      IsNext (Some (record { number = Err (digit.Word (from + begin) (from + end)); next = from + n + 1 })) from
      (input_of text) (input_of text)
  word_line begin end bad more within = search (rules, line_taken, word_of)

  pub number_line : (k : ℕ) → Ok k ≡ line_answer (take n rest) →
      IsNext (Some (record { number = Ok k; next = from + n + 1 })) from (input_of text) (input_of text)
  number_line k good = search (rules, line_taken)

  pub large_line : Err digit.TooLarge ≡ line_answer (take n rest) →
      IsNext (Some (record { number = Err digit.TooLarge; next = from + n + 1 })) from (input_of text) (input_of text)
  large_line large = search (rules, line_taken)
