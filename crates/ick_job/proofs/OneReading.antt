-- A text has exactly one list of choices or one line.
use Rattle.std.proofs.Common.{◌≡◌, ◌∙◌, ◌⊎◌, inl, inr, ℕ, Bool, List, Option, Some, None, ap, refl, sym, arith, length}
use Rattle.std.proofs.lemmas.Bool.{cases_lt}
use Rattle.clap.specs.Words.{Text}
use Rattle.ick_explorer.proofs.GroupLaws.{reads_one}
use Rattle.ick_job.specs.Choices.{AreChoices, IsUnread, bad, long}
use Rattle.ick_job.specs.declared.notice.Notice.{Notice}
use Rattle.ick_job.specs.declared.notice.Notice.TheVariants.{BadCursor, NoSuchRun}
use Rattle.ick_job.proofs.TextsRead.{text_decided}

-- a text has one list of choices or one line
pub choices_unique : (text : Option Text) (most : ℕ) (c d : Option (List Bool)) → AreChoices text most c
    → AreChoices text most d → d ≡ c
choices_unique None most c d g h = h ∙ sym g
choices_unique (Some text) most None d g h = absurd g
choices_unique (Some text) most (Some c) None g h = absurd h
choices_unique (Some text) most (Some c) (Some d) g h = ap (λ x. Some x) (reads_one text d c h.0 g.0)

pub read_not_unread : (text : Option Text) (most : ℕ) (c : Option (List Bool)) (line : Notice) → AreChoices text most c
    → IsUnread most text line → ⊥
read_not_unread text most None line g (bad t none) = absurd g
read_not_unread text most (Some c) line g (bad t none) = none c g.0
read_not_unread text most None line g (long t d reads above) = absurd g
read_not_unread text most (Some c) line g (long t d reads above) =
    let same = ap (λ (x : List Bool). length x) (reads_one t c d g.0 reads) in
    let fits = g.1 in omega arith

pub unread_unique : (text : Option Text) (most : ℕ) (a b : Notice) → IsUnread most text a → IsUnread most text b →
    b ≡ a
unread_unique text most a b (bad t g) (bad u h) = refl
unread_unique text most a b (bad t g) (long u d reads above) = absurd (g d reads)
unread_unique text most a b (long t d reads above) (bad u h) = absurd (h d reads)
unread_unique text most a b (long t c g above) (long u d h over) = refl

-- there is a list or a line
pub choices_decided : (text : Option Text) (most : ℕ)
    → ((c : Option (List Bool)) × AreChoices text most c) ⊎ ((line : Notice) × IsUnread most text line)
choices_decided None most = inl (None, refl)
choices_decided (Some text) most = elim (text_decided text) [
  | inr none ↦ inr (BadCursor, bad text none)
  | inl found ↦ elim (cases_lt most (length found.0)) [
    | inl above ↦ inr (NoSuchRun, long text found.0 found.1 above)
    | inr fits ↦ inl (Some found.0, (found.1, omega arith))
  ]
]
