-- What is answered to a job, by its source.
use Rattle.std.specs.Prelude.{ℕ, ◌≡◌, ◌<◌, Bool, true, false, List, [], ◌∷◌, Option, Some, None, codes, length, nat_le}
use Rattle.ick_bits.specs.Faults.{message_of}
use Rattle.ick_bits.specs.declared.faults.FaultKind.{FaultKind}
use Rattle.ick_source.specs.declared.all_faults.FaultAt.{FaultAt}
use Rattle.ick_source.specs.declared.seen.Seen.{Seen}
use Rattle.ick_source.specs.declared.statements.Listed.{Listed}
use Rattle.ick_source.specs.Listed.{IsListed}
use Rattle.ick_source.specs.Refusals.{Compiles, IsRefused, longest}
use Rattle.ick_code.specs.Compiled.{IsCompiled, code_program}
use Rattle.ick_code.specs.declared.code.Code.{Code}
use Rattle.ick_job.specs.Answer.{Answer, refusal, shown}
use Rattle.ick_job.specs.Notice.{notice_text}
use Rattle.ick_job.specs.declared.notice.Notice.TheVariants as notice
use Rattle.ick_stages.specs.Listed.{AreSome, HasListed}
use Rattle.ick_stages.specs.Stages.{AreWhole, HasStages, needs_code}
use Rattle.ick_stages.specs.declared.stages.Asked.{Asked}
use Rattle.ick_stages_cli.specs.Job.{Wanted}

-- there is the only statement that is asked for
abbrev pub is_there : (only : Option ℕ) → (count : ℕ) → Bool
is_there None count = true
is_there (Some n) count = nat_le n count

abbrev pub no_statement : List ℕ
no_statement = codes "NO SUCH STATEMENT\n"

-- the answer by the stages of a code
pub data IsCodeAnswer (asked : Asked) (source : List ℕ) (code : Code) : Answer → Type 0 where
  no_such : is_there asked.only (length (code_program code)) ≡ false
      → IsCodeAnswer asked source code (refusal 64 no_statement)
  stages : (text : List ℕ) → is_there asked.only (length (code_program code)) ≡ true
      → HasStages code source asked text → IsCodeAnswer asked source code (shown text)

-- the answer by the statements of a source: its lines are shown, and if it is refused, the message of the first fault
pub data IsListedAnswer (asked : Asked) (source : List ℕ) (seen : List Seen) (faults : List FaultAt) :
    Answer → Type 0 where
  not_there : faults ≡ [] → is_there asked.only (length seen) ≡ false
      → IsListedAnswer asked source seen faults (refusal 64 no_statement)
  statements : (text : List ℕ) → faults ≡ [] → is_there asked.only (length seen) ≡ true
      → HasListed source seen faults asked text → IsListedAnswer asked source seen faults (shown text)
  refused : (text : List ℕ) (first : FaultAt) (others : List FaultAt) → faults ≡ first ∷ others
      → HasListed source seen faults asked text → IsListedAnswer asked source seen faults (record {
        output = text;
        errors = message_of first.kind first.number [];
        status = 2;
      })

-- some fault refuses the source
abbrev pub IsSomehowRefused : List ℕ → Type 0
IsSomehowRefused source = (kind : FaultKind) × (n : ℕ) × IsRefused source kind n

-- the answer to a source: it is too long; or its statements give the answer, if it is refused or no code is needed; or
-- the code gives it to which it compiles
pub data IsSourceAnswer (asked : Asked) (source : List ℕ) : Answer → Type 0 where
  too_long : longest < length source
      → IsSourceAnswer asked source (refusal 2 (notice_text notice.SourceTooLong))
  listed : (x : Listed) (answer : Answer) → IsListed source x
      → (needs_code asked ≡ true → IsSomehowRefused source)
      → IsListedAnswer asked source x.statements.items x.faults.items answer → IsSourceAnswer asked source answer
  compiled : (code : Code) (answer : Answer) → needs_code asked ≡ true → Compiles source (code_program code)
      → IsCompiled (code_program code) code → IsCodeAnswer asked source code answer
      → IsSourceAnswer asked source answer

-- the answer to a job, which has no source if the file did not open or a read of it failed
pub data IsStagesAnswer (w : Wanted) : Option (List ℕ) → Answer → Type 0 where
  not_read : IsStagesAnswer w None (refusal 4 (notice_text notice.FileNotRead))
  read : (source : List ℕ) (answer : Answer) → IsSourceAnswer w.asked source answer
      → IsStagesAnswer w (Some source) answer

-- whole statements of the lines of a source, and whole lines of its faults, from the first one on
pub data AreShown (asked : Asked) (source : List ℕ) : List ℕ → Type 0 where
  no_line : AreShown asked source []
  lines_of : (code : Code) (lines : List ℕ) → Compiles source (code_program code)
      → IsCompiled (code_program code) code → AreWhole code source asked lines → AreShown asked source lines
  lines_listed : (x : Listed) (lines : List ℕ) → IsListed source x
      → AreSome source x.statements.items x.faults.items asked lines
      → AreShown asked source lines

-- the same of a job
pub data MayShow (w : Wanted) : Option (List ℕ) → List ℕ → Type 0 where
  nothing : (source : Option (List ℕ)) → MayShow w source []
  of_source : (source lines : List ℕ) → AreShown w.asked source lines → MayShow w (Some source) lines
