-- The choices that a text has, and the line of a text that has none.
use Rattle.std.specs.Prelude.{◌≡◌, ◌<◌, ◌≤◌, ℕ, Bool, List, Option, Some, None, length}
use Rattle.clap.specs.Words.{Text}
use Rattle.ick_explorer.specs.ChoiceTexts.{IsTextOf}
use Rattle.ick_job.specs.declared.notice.Notice.{Notice}
use Rattle.ick_job.specs.declared.notice.Notice.TheVariants.{BadCursor, NoSuchRun}

-- the choices that a text has, at most so many; no choices if there is no text
abbrev pub AreChoices : Option Text → ℕ → Option (List Bool) → Type 0
AreChoices None most choices = choices ≡ None
AreChoices (Some text) most None = ⊥
AreChoices (Some text) most (Some choices) = IsTextOf text choices × (length choices ≤ most)

-- it has such choices
abbrev pub HasChoices : Option Text → ℕ → Type 0
HasChoices text most = (choices : Option (List Bool)) × AreChoices text most choices

-- the line of a text that has none: it is no cursor's text, or has more choices
pub data IsUnread (most : ℕ) : Option Text → Notice → Type 0 where
  bad : (text : Text) → ((choices : List Bool) → ¬ IsTextOf text choices) → IsUnread most (Some text) BadCursor
  long : (text : Text) (choices : List Bool) → IsTextOf text choices → most < length choices
      → IsUnread most (Some text) NoSuchRun

-- the most choices of a run that are read
unfoldable pub most_choices : ℕ
most_choices = 1000000
