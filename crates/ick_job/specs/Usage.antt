-- What is left by arguments that ask for no job.
use Rattle.std.specs.Prelude.{◌≡◌, ◌≢◌, ◌+◌, ◌++◌, ◌⊎◌, ℕ, Bool, true, List, [], ◌∷◌}
use Rattle.std.specs.Prelude.{take}
use Rattle.clap.specs.Words.{Kinds}
use Rattle.clap.specs.declared.error.ErrorKind.{ErrorKind}
use Rattle.clap.specs.declared.error.ErrorKind.TheVariants as kind
use Rattle.ick_job.specs.Notice.{notice_text}
use Rattle.ick_job.specs.declared.words_fault.WordsFault.{WordsFault}
use Rattle.ick_job.specs.declared.words_fault.WordsFault.TheVariants.{NoMemory, NotText}
use Rattle.ick_job.specs.declared.notice.Notice.{Notice}
use Rattle.ick_job.specs.declared.notice.Notice.TheVariants.{WriteFailed, OutOfMemory, WordsNotRead}

-- a request for help, and a mistake in the arguments
abbrev pub IsRequest : ErrorKind → Type 0
IsRequest k = (k ≡ kind.DisplayHelp) ⊎ (k ≡ kind.DisplayVersion)

abbrev pub IsMistake : ErrorKind → Type 0
IsMistake k = (k ≢ kind.DisplayHelp) × (k ≢ kind.DisplayVersion)

abbrev pub EachIs : (ErrorKind → Type 0) → Kinds → Type 0
EachIs P [] = Unit {0}
EachIs P (k ∷ ks) = P k × EachIs P ks

-- the law of clap finds a mistake, and asks for no help
abbrev pub AreMistakes : Kinds → Type 0
AreMistakes kinds = (kinds ≢ []) × EachIs IsMistake kinds

-- the law of clap finds a request for help, and no mistake
abbrev pub AreRequests : Kinds → Type 0
AreRequests kinds = (kinds ≢ []) × EachIs IsRequest kinds

-- what is due to a mistake: a text of clap, with status 64; or memory ran out
pub data IsRefused : List ℕ → ℕ → Type 0 where
  refused : (text : List ℕ) → IsRefused text 64
  refused_without_memory : IsRefused (notice_text OutOfMemory) 4

-- What is due to a request for help, behind what was written: a text of clap is written, and nothing is said; or the
-- writer failed, once, and a prefix of the text is written; or memory ran out, and nothing is.
pub data IsHelped (told : Bool) (failed failed' : ℕ) (before after : List ℕ) : List ℕ → ℕ → Type 0 where
  helped : (text : List ℕ) → failed' ≡ failed → (told ≡ true → after ≡ before ++ text)
      → IsHelped told failed failed' before after [] 0
  help_cut : (text : List ℕ) → failed' ≡ failed + 1
      → (told ≡ true → (n : ℕ) × (after ≡ before ++ take n text))
      → IsHelped told failed failed' before after (notice_text WriteFailed) 4
  help_without_memory : failed' ≡ failed → after ≡ before
      → IsHelped told failed failed' before after (notice_text OutOfMemory) 4

-- what is owed if the arguments can't be read
abbrev pub words_notice : WordsFault → Notice
words_notice NoMemory = OutOfMemory
words_notice NotText = WordsNotRead

abbrev pub words_status : WordsFault → ℕ
words_status NoMemory = 4
words_status NotText = 64
