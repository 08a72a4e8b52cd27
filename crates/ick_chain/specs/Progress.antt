-- The lines that show how far long work is.
use Rattle.std.specs.Prelude.{◌≡◌, ◌++◌, ◌∷◌, ℕ, Bool, false, true, List, [], codes, decimal}
use Rattle.ick_chain.specs.declared.progress.Report.{Report}
use Rattle.ick_chain.specs.declared.progress.Report.TheVariants.{Over, Primes, States}

-- The line of a report. It begins with a carriage return, and is at least as long as the lines that come before it.
abbrev pub progress_line : Report → List ℕ
progress_line (States n) = 13 ∷ decimal n ++ codes " STATES"
progress_line (Primes n) = 13 ∷ decimal n ++ codes " PRIMES          "
progress_line Over = 13 ∷ codes "                    " ++ 13 ∷ []

-- the lines of reports, one behind the other
unfoldable pub progress_lines : List Report → List ℕ
progress_lines [] = []
progress_lines (report ∷ more) = progress_line report ++ progress_lines more

-- Nothing happened to a sink but that it was told reports: only lines of reports are written, no failure is counted,
-- and a sink that shows no reports is unchanged.
pub record OnlyShows {E : Type 0} (told : Bool) (failed : E → ℕ) (written : E → List ℕ) (shows : E → Bool)
    (old new : E) : Type 0 where
  pub failed_as_before : failed new ≡ failed old
  pub same : shows new ≡ shows old
  pub silent : shows old ≡ false → new ≡ old
  pub lines : told ≡ true → (reports : List Report) × (written new ≡ written old ++ progress_lines reports)
