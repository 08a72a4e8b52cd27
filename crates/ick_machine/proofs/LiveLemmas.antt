-- What a machine shows that takes its input from a feed.
use Rattle.std.proofs.Common.{◌≡◌, ℕ, List, [], Option, Some, None, refl, ap, ◌∙◌, rules}
use Rattle.std.specs.Prelude.{option_map}
use Rattle.ick_syntax.specs.StatementTree.{StatementTree}
use Rattle.ick_code.{proofs.AskLaws.ask_same, specs.{declared.code.Code.Code, Compiled.code_program}}
use Rattle.ick_code.specs.meaning.{State.{State, Ending, statement_at}, Move.{Asking, ended, ask, ask_at, ask_of}}
use Rattle.ick_instructions.specs.declared.lowered.LoweredParts.{LoweredParts}
use Rattle.ick_engine.specs.{declared.exit.RawEnd.RawEnd, Feeds.input_after}
use Rattle.ick_runtime.specs.{View.View, Inputs.input_of}
use Rattle.ick_backtrack.specs.Asked.{Finish, finished, asked_at_end}
use Rattle.ick_machine.{proofs.FedLemmas.same_end, specs.{Message.{asked_message, end_message}, Run.ending_of}}
use Rattle.ick_machine.specs.Run.{run_state}

-- the message of an end
message_at : (end : Ending) (asked : Asking) → Some (ended end) ≡ Some asked → asked_message asked ≡ end_message end
message_at end asked is = let same : asked ≡ ended end = cc in ap asked_message same

-- it asks what it would over its last line
module _ (code : Code) (lowered : LoweredParts) (line text : List ℕ) (v : View) (same : text ≡ line) where
  pub asks_same : (end : Option RawEnd) (asked : Option Asking) →
      asked ≡ Some (ask (code_program code) (run_state code lowered (input_of text) v end)) →
      asked ≡ Some (ask (code_program code) (run_state code lowered (input_after line []) v end))
  asks_same end asked is = search (rules, ask_same, same_end)

  -- and ends as it would
  pub asks_end : (e : RawEnd) (finish : Finish) →
      Some finish ≡ option_map finished (ending_of code (input_of text) (Some e)) →
      asked_at_end finish ≡ Some (ask (code_program code) (run_state code lowered (input_after line []) v (Some e)))
  unfolding ask
  asks_end e finish is = search (rules, same_end)

  -- and has the message of this end
  pub said_at : (end : Option RawEnd) (e : RawEnd) (finish : Finish) (ending : Ending) → end ≡ Some e →
      Some finish ≡ option_map finished (ending_of code (input_of text) (Some e)) → finish ≡ finished ending →
      asked_message (ask (code_program code) (run_state code lowered (input_after line []) v end)) ≡ end_message ending
  unfolding ask
  said_at end e finish ending end_is is finish_is = search (rules, asks_end, message_at)

-- a run that hasn't ended has no message
none_at : (found : Option StatementTree) (s : State) → asked_message (ask_at found s) ≡ []
none_at None s = refl
none_at (Some statement) s = search rules

pub no_message : (program : List StatementTree) (s : State) → s.end ≡ None → asked_message (ask program s) ≡ []
unfolding ask
no_message program s going =
    ap (λ e. asked_message (ask_of e program s)) going ∙ none_at (statement_at program s.place) s
