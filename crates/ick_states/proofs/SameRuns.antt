-- Proves that kept runs are equal exactly if their ends and their parts are, and that they then have the same number.
use Rattle.std.proofs.Common.{◌≡◌, ℕ, Bool, length, Option, Some, None, refl, ap, sym, ◌∙◌}
use Rattle.std.specs.Prelude.{is_some, option_map}
use Rattle.ick_code.specs.Compiled.{code_program, IsCompiled}
use Rattle.ick_code.specs.meaning.State.{State}
use Rattle.ick_instructions.specs.Lowered.{IsLowered}
use Rattle.ick_engine.specs.declared.exit.RawEnd.{RawEnd}
use Rattle.ick_engine.specs.Exits.{end_of}
use Rattle.ick_runtime.specs.Inputs.{input_of}
use Rattle.ick_runtime.specs.View.{state_of}
use Rattle.ick_marks.specs.Saved.{saved_view}
use Rattle.ick_outcomes.specs.Accounts.{Configuration}
use Rattle.ick_states.specs.Alike.{AreAlike}
use Rattle.ick_states.specs.Hashed.{mix_bit, mix_saved}
use Rattle.ick_states.specs.Seen.{CanGoOnFrom, ending_in, kept_state, key_of, seen_of, text_of}
use Rattle.ick_states.specs.declared.runs.KeptRun.{KeptRun}
use Rattle.ick_states.specs.declared.runs.StateSpace.{StateSpace}
use Rattle.ick_states.proofs.Equals.{alike_state, state_alike}
use Rattle.ick_states.proofs.Looking.{same_number}

module _ (runs : StateSpace) (one other : KeptRun) where
  abbrev long : ℕ
  long = length runs.input.now

  -- equal ends and parts make equal runs
  pub seen_same : ending_in runs one.end ≡ ending_in runs other.end → AreAlike long one.saved other.saved →
      seen_of runs one ≡ seen_of runs other
  seen_same ends alike =
      let code = runs.lowered.code.now in
      let states = alike_state code runs.lowered.parts runs.input.now one.saved other.saved alike in
      λ i. record { program = text_of runs; state = record (states i) { end = ends i } }

  -- equal runs have equal ends
  pub ends_alike : (seen_of runs one).state ≡ (seen_of runs other).state →
      ending_in runs one.end ≡ ending_in runs other.end
  ends_alike same = ap (λ (s : State). s.end) same

  -- and equal parts
  pub parts_alike : IsCompiled (code_program runs.lowered.code.now) runs.lowered.code.now →
      IsLowered runs.lowered.code.now runs.lowered.parts → CanGoOnFrom runs.lowered one.saved →
      CanGoOnFrom runs.lowered other.saved → (seen_of runs one).state ≡ (seen_of runs other).state →
      AreAlike long one.saved other.saved
  parts_alike is low mine theirs same =
      state_alike runs.lowered.code.now runs.lowered.parts is low runs.input.now one.saved other.saved mine theirs
      (ap {B = State} (λ (s : State). record s { end = None }) same)

  -- and the same number
  pub same_key : IsCompiled (code_program runs.lowered.code.now) runs.lowered.code.now →
      IsLowered runs.lowered.code.now runs.lowered.parts → CanGoOnFrom runs.lowered one.saved →
      CanGoOnFrom runs.lowered other.saved → (seen_of runs one).state ≡ (seen_of runs other).state →
      key_of runs one ≡ key_of runs other
  same_key is low mine theirs same =
      let number = same_number long one.saved other.saved (parts_alike is low mine theirs same) in
      let ended = mapped one.end ∙ ap is_some (ends_alike same) ∙ sym (mapped other.end) in
      λ i. mix_bit (number i) (ended i)
    where
      mapped : (end : Option RawEnd) → is_some end ≡ is_some (ending_in runs end)
      mapped None = refl
      mapped (Some e) = refl
