-- What holds of each task.
use Rattle.std.specs.Prelude.{◌≡◌, ℕ, List, Option}
use Rattle.ick_cli.specs.Job.{Task}
use Rattle.ick_job.specs.Answer.{Answer}
use Rattle.ick_cli.specs.Tool.{IsToolAnswer}

-- Each task has an answer to a file that was not read and to each source, with each input, and no other.
abbrev pub OneAnswer : Type 0
OneAnswer = (task : Task) (source : Option (List ℕ)) (input : List ℕ) →
    (answer : Answer) × IsToolAnswer task source input answer
    × ((other : Answer) → IsToolAnswer task source input other → other ≡ answer)
