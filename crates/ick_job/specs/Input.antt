-- How work ends that did not read what it needs.
use Rattle.std.specs.Prelude.{◌<◌, ℕ, List, length}
use Rattle.ick_job.specs.declared.job_end.JobEnd.{JobEnd}
use Rattle.ick_job.specs.declared.job_end.JobEnd.TheVariants.{FileNotRead, InputTooLong, NoMemory, ReadFailed}

-- the bytes of the longest input
unfoldable pub longest_input : ℕ
longest_input = 1048576

-- the file was not read, or memory ran out
abbrev pub EndsUnopened : JobEnd → Type 0
EndsUnopened FileNotRead = Unit {0}
EndsUnopened NoMemory = Unit {0}
EndsUnopened _ = ⊥

-- a read of the reader failed, or memory ran out
abbrev pub EndsCut : JobEnd → Type 0
EndsCut ReadFailed = Unit {0}
EndsCut NoMemory = Unit {0}
EndsCut _ = ⊥

-- or the input is too long
abbrev pub EndsUnread : List ℕ → JobEnd → Type 0
EndsUnread input InputTooLong = longest_input < length input
EndsUnread input ReadFailed = Unit {0}
EndsUnread input NoMemory = Unit {0}
EndsUnread input _ = ⊥
