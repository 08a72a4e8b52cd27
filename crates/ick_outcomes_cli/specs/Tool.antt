-- What is answered to a job, by its source, its input and its listing.
use Rattle.std.specs.Prelude.{◌≡◌, ◌<◌, ◌≤◌, ◌++◌, if◌then◌else◌, ℕ, Bool, true, false, List, [], Option, Some, None}
use Rattle.std.specs.Prelude.{codes, length}
use Rattle.std.specs.List.{Contains}
use Rattle.ick_bits.specs.Faults.{message_of}
use Rattle.ick_bits.specs.declared.faults.FaultKind.{FaultKind}
use Rattle.ick_source.specs.Refusals.{Compiles, IsRefused, longest}
use Rattle.ick_syntax.specs.StatementTree.{StatementTree}
use Rattle.ick_code.specs.meaning.Move.{first_state}
use Rattle.ick_backtrack.specs.Asked.{at_limit}
use Rattle.ick_backtrack.specs.Machine.{Program}
use Rattle.ick_chain.specs.ExactListings.{IsExactListing, numbers_text}
use Rattle.ick_chain.specs.StatesTexts.{IsStatesText}
use Rattle.ick_explorer.specs.Runs.{IsWhole, ends, run}
use Rattle.ick_outcomes.specs.Lines.{IsSummaryText, IsTotal}
use Rattle.ick_outcomes.specs.Seen.{rows_of}
use Rattle.ick_outcomes.specs.Summaries.{HasMoreRuns, IsSummary, Row, count_of}
use Rattle.ick_outcomes.specs.Texts.{IsNumberText}
use Rattle.ick_outcomes.specs.declared.outcome.Outcome.{Outcome}
use Rattle.clap.specs.Words.{Text}
use Rattle.ick_job.specs.Notice.{notice_text}
use Rattle.ick_job.specs.Answer.{Answer, refusal, shown}
use Rattle.ick_job.specs.Input.{longest_input}
use Rattle.ick_job.specs.declared.notice.Notice.TheVariants as notice
use Rattle.ick_outcomes_cli.specs.Asked.{Explains, ForeignAt, foreign_text}
use Rattle.ick_outcomes_cli.specs.Job.{Wanted, asked_of, asks_both, limit_or_usual, lists_too, states_too}
use Rattle.ick_outcomes_cli.specs.Job.{usual_limit}
use Rattle.ick_outcomes_cli.specs.Unfinished.{IsUnfinished, IsUnfinishedText}
use Rattle.ick_outcomes_cli.specs.declared.asked.Asked.{Asked}
use Rattle.ick_outcomes_cli.specs.declared.asked.Asked.TheVariants.{Foreign, Text as Told}
use Rattle.ick_outcomes_cli.specs.declared.found.Found.{Found}
use Rattle.ick_outcomes_cli.specs.declared.found.Found.TheVariants.{Outcomes, TooManyStates, Unfinished}
use Rattle.ick_outcomes_cli.specs.declared.words.job.Question.{Question}

-- the text of outcomes, or only how many there are
abbrev pub IsTextOf : (exact by_ends total : Bool) → List Outcome → List ℕ → Type 0
IsTextOf exact by_ends true outcomes text = IsTotal outcomes text
IsTextOf exact by_ends false outcomes text = IsSummaryText exact by_ends outcomes text

-- the same for a program whose runs all end: the numbers of outcomes and of runs have their nouns in the singular if
-- they are 1
pub record IsEndedTotal (outcomes : List Outcome) (text : List ℕ) : Type 0 where
  pub runs : List ℕ
  pub counted : IsNumberText (count_of (rows_of outcomes)) runs
  pub same : text ≡ numbers_text (length outcomes) runs ++ codes "\n"

abbrev pub IsEndedText : (exact by_ends total : Bool) → List Outcome → List ℕ → Type 0
IsEndedText exact by_ends true outcomes text = IsEndedTotal outcomes text
IsEndedText exact by_ends false outcomes text = IsSummaryText exact by_ends outcomes text

-- the text is that of the summary of all runs of a program over an input
pub record IsOutcomes (program : Program) (input : List ℕ) (limit : ℕ) (q : Question)
    (text : List ℕ) : Type 0 where
  pub outcomes : List Outcome
  pub summary : IsSummary (asked_of program q) (first_state program input) limit (rows_of outcomes)
  pub text_is : IsTextOf q.exact q.ends q.total outcomes text

-- the same, with the text for a program whose runs all end
pub record IsEnded (program : Program) (input : List ℕ) (limit : ℕ) (q : Question) (text : List ℕ) : Type 0 where
  pub outcomes : List Outcome
  pub summary : IsSummary (asked_of program q) (first_state program input) limit (rows_of outcomes)
  pub text_is : IsEndedText q.exact q.ends q.total outcomes text

-- the program has more runs than states may be kept
abbrev pub HasTooMany : Program → List ℕ → ℕ → Question → Type 0
HasTooMany program input limit q = HasMoreRuns (asked_of program q) (first_state program input) limit q.most

-- a run of a program over an input is cut short by the limit
pub record GoesOn (program : Program) (input : List ℕ) (limit : ℕ) : Type 0 where
  pub choices : List Bool
  pub whole : IsWhole program (first_state program input) limit choices
  pub cut : (run program (first_state program input) limit choices).stop ≡ ends at_limit

-- a row is that of runs at the limit
abbrev pub HasLimit : List Row → Type 0
HasLimit rows = (r : Row) × Contains rows r × (r.end ≡ codes "LIMIT")

-- The text lists the outcomes of a program over an input without a limit. They are found by all states, or they are
-- those under the usual limit, before which each run ends.
pub data IsEveryOutcome (program : Program) (input : List ℕ) (q : Question) (text : List ℕ) : Type 0 where
  by_states : IsExactListing (asked_of program q) (first_state program input) q.exact q.total text
      → IsEveryOutcome program input q text
  by_runs : ¬ GoesOn program input usual_limit → IsEnded program input usual_limit q text
      → IsEveryOutcome program input q text

-- how many steps without a choice lie at most between two states that are printed
abbrev pub stretch : ℕ
stretch = 10000

-- without a limit the text lists the states, if they are asked for, or else the outcomes
abbrev pub IsUnlimited : Bool → Program → List ℕ → Question → List ℕ → Type 0
IsUnlimited true program input q text =
    IsStatesText (asked_of program q) (first_state program input) stretch q.exact text
IsUnlimited false program input q text = IsEveryOutcome program input q text

-- the text lists the outcomes, under a limit if one is given; or the states
abbrev pub IsListed : Program → List ℕ → Option ℕ → Question → List ℕ → Type 0
IsListed program input None q text = IsUnlimited q.states program input q text
IsListed program input (Some limit) q text = IsOutcomes program input limit q text

-- There are more runs than states may be kept, and without a limit the states were not searched to the end either.
abbrev pub IsTooMuch : Program → List ℕ → Option ℕ → Question → Type 0
IsTooMuch program input None q =
    (q.states ≡ false) × HasTooMany program input usual_limit q × ((line : List ℕ) × IsUnfinished program input q line)
IsTooMuch program input (Some limit) q = HasTooMany program input limit q

-- without a limit the line says why the states were not searched to the end; in place of outcomes it may be the answer
-- only if a run goes on beyond the usual limit
pub record IsUnlisted (program : Program) (input : List ℕ) (q : Question) (line : List ℕ) : Type 0 where
  pub beyond : q.states ≡ false → GoesOn program input usual_limit
  pub reason : IsUnfinished program input q line

-- The line may be the answer in place of outcomes: there are too many runs. Or no limit is given, and it says why the
-- states were not searched to the end.
pub data IsStop (program : Program) (input : List ℕ) (q : Question) : Option ℕ → List ℕ → Type 0 where
  many_runs : (limit : Option ℕ) → IsTooMuch program input limit q
      → IsStop program input q limit (notice_text notice.TooManyStates)
  unlisted : (line : List ℕ) → IsUnlisted program input q line → IsStop program input q None line

abbrev pub IsFound : Program → List ℕ → Option ℕ → Question → Found → Type 0
IsFound program input limit q (Outcomes text) = IsListed program input limit q text.items
IsFound program input limit q TooManyStates = IsTooMuch program input limit q
IsFound program input limit q (Unfinished line) = (limit ≡ None) × IsUnlisted program input q line.items

-- the bytes of the longest listing
unfoldable pub longest_listing : ℕ
longest_listing = 1073741824

-- the answer by a program's outcomes
pub data IsSummed (program : Program) (input : List ℕ) (limit : Option ℕ) (q : Question) : Answer → Type 0 where
  summed : (text : List ℕ) → IsListed program input limit q text → IsSummed program input limit q (shown text)

-- the answer by the statements that asked for the choices of a listing; there is no listing if it was not read
pub data IsExplained (program : Program) (input : List ℕ) (limit : ℕ) :
    Option (List ℕ) → Answer → Type 0 where
  listing_not_read : IsExplained program input limit None (refusal 4 (notice_text notice.FileNotRead))
  listing_too_long : (listing : List ℕ) → longest_listing < length listing
      → IsExplained program input limit (Some listing) (refusal 4 (notice_text notice.ListingTooLong))
  explained : (listing text : List ℕ) → length listing ≤ longest_listing
      → Explains program (first_state program input) limit listing text
      → IsExplained program input limit (Some listing) (shown text)
  foreign : (listing : List ℕ) (n : ℕ) → length listing ≤ longest_listing
      → ForeignAt program (first_state program input) limit listing n
      → IsExplained program input limit (Some listing) (refusal 64 (foreign_text n))

-- the answer to a program over an input, by whether a listing is named
pub data IsProgramAnswer (program : Program) (input : List ℕ) (limit : Option ℕ) (q : Question)
    (listing : Option (List ℕ)) : Option Text → Answer → Type 0 where
  input_too_long : (named : Option Text) → longest_input < length input
      → IsProgramAnswer program input limit q listing named (refusal 4 (notice_text notice.InputTooLong))
  by_outcomes : (answer : Answer) → length input ≤ longest_input → IsSummed program input limit q answer
      → IsProgramAnswer program input limit q listing None answer
  by_listing : (name : Text) (answer : Answer) → length input ≤ longest_input
      → IsExplained program input (limit_or_usual limit) listing answer
      → IsProgramAnswer program input limit q listing (Some name) answer

-- the answer to a source: it is too long, or it is refused, or it compiles to a program
pub data IsSourceAnswer (w : Wanted) (source input : List ℕ) (listing : Option (List ℕ)) : Answer → Type 0 where
  too_long : longest < length source
      → IsSourceAnswer w source input listing (refusal 2 (notice_text notice.SourceTooLong))
  refused : (kind : FaultKind) (n : ℕ) → IsRefused source kind n
      → IsSourceAnswer w source input listing (refusal 2 (message_of kind n []))
  compiled : (trees : List StatementTree) (answer : Answer) → Compiles source trees
      → IsProgramAnswer trees input w.limit w.question listing w.listing answer
      → IsSourceAnswer w source input listing answer

-- the answer to a job that is done, which has no source if the file did not open or a read of it failed
pub data IsReadAnswer (w : Wanted) (input : List ℕ) (listing : Option (List ℕ)) :
    Option (List ℕ) → Answer → Type 0 where
  not_read : IsReadAnswer w input listing None (refusal 4 (notice_text notice.FileNotRead))
  read : (source : List ℕ) (answer : Answer) → IsSourceAnswer w source input listing answer
      → IsReadAnswer w input listing (Some source) answer

-- the line for two things that don't go together
abbrev pub both_text : Wanted → List ℕ
both_text w =
    if states_too w then codes "STATES WITH LIMIT, TOTAL OR ASKED\n"
    else if lists_too w then codes "ASKED WITH EXACT, TOTAL OR ENDS\n"
    else codes "MEMORY WITH LIMIT\n"

-- the answer to a job
pub data IsOutcomesAnswer (w : Wanted) (input : List ℕ) (listing : Option (List ℕ)) (source : Option (List ℕ)) :
    Answer → Type 0 where
  both : asks_both w ≡ true → IsOutcomesAnswer w input listing source (refusal 64 (both_text w))
  one : (answer : Answer) → asks_both w ≡ false → IsReadAnswer w input listing source answer
      → IsOutcomesAnswer w input listing source answer

-- a source compiles to a program that may stop with a line in place of outcomes
pub record Stops (w : Wanted) (source input line : List ℕ) : Type 0 where
  pub trees : List StatementTree
  pub compiles : Compiles source trees
  pub unlisted : w.listing ≡ None
  pub stop : IsStop trees input w.question w.limit line

-- the same of the source of a job
pub data MayStop (w : Wanted) (input : List ℕ) : Option (List ℕ) → List ℕ → Type 0 where
  may_stop : (source line : List ℕ) → Stops w source input line → MayStop w input (Some source) line

-- the line of an unfinished search is one
abbrev pub HasLine : Found → Type 0
HasLine (Outcomes text) = Unit {0}
HasLine TooManyStates = Unit {0}
HasLine (Unfinished line) = IsUnfinishedText line.items

-- the answer by what was found out, and by what was told of a listing
abbrev pub IsTextFound : Found → Answer → Type 0
IsTextFound (Outcomes text) answer = answer ≡ shown text.items
IsTextFound TooManyStates answer = ⊥
IsTextFound (Unfinished line) answer = ⊥

abbrev pub IsStopped : Found → List ℕ → Type 0
IsStopped (Outcomes text) line = ⊥
IsStopped TooManyStates line = line ≡ notice_text notice.TooManyStates
IsStopped (Unfinished text) line = line ≡ text.items

abbrev pub IsToldOf : Asked → Answer → Type 0
IsToldOf (Told text) answer = answer ≡ shown text.items
IsToldOf (Foreign number) answer = answer ≡ refusal 64 (foreign_text number)
