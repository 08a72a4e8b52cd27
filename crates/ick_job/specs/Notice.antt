-- The lines that the program has itself, each with its line end.
use Rattle.std.specs.Prelude.{ℕ, List, codes}
use Rattle.ick_job.specs.declared.notice.Notice.{Notice}
use Rattle.ick_job.specs.declared.notice.Notice.TheVariants.{ChoicesAndSeed, BadCursor, NoSuchRun, SourceTooLong}
use Rattle.ick_job.specs.declared.notice.Notice.TheVariants.{InputTooLong, ListingTooLong, TooManyStates}
use Rattle.ick_job.specs.declared.notice.Notice.TheVariants.{FileNotRead, ReadFailed, WriteFailed}
use Rattle.ick_job.specs.declared.notice.Notice.TheVariants.{OutOfMemory, WordsNotRead}

abbrev pub notice_text : Notice → List ℕ
notice_text ChoicesAndSeed = codes "CHOICES AND SEED TOGETHER\n"
notice_text BadCursor = codes "BAD CURSOR\n"
notice_text NoSuchRun = codes "NO SUCH RUN\n"
notice_text SourceTooLong = codes "SOURCE TOO LONG\n"
notice_text InputTooLong = codes "INPUT TOO LONG\n"
notice_text ListingTooLong = codes "LISTING TOO LONG\n"
notice_text TooManyStates = codes "TOO MANY STATES\n"
notice_text FileNotRead = codes "FILE NOT READ\n"
notice_text ReadFailed = codes "READ FAILED\n"
notice_text WriteFailed = codes "WRITE FAILED\n"
notice_text OutOfMemory = codes "OUT OF MEMORY\n"
notice_text WordsNotRead = codes "WORDS NOT READ\n"
