-- Proves that what only shows reports, and then only shows reports, only shows reports.
use Rattle.std.proofs.Common.{◌≡◌, ◌∙◌, ◌++◌, ◌∷◌, ◌⊎◌, inl, inr, ℕ, Bool, false, true, List, [], ap, refl, sym, subst}
use Rattle.std.proofs.lemmas.List.{append-nil, append_assoc}
use Rattle.ick_chain.specs.Progress.{OnlyShows, progress_line, progress_lines}
use Rattle.ick_chain.specs.declared.progress.Report.{Report}

-- the lines of more reports are behind those of the first ones
lines_behind : (first more : List Report)
    → progress_lines (first ++ more) ≡ progress_lines first ++ progress_lines more
unfolding progress_lines
lines_behind [] more = refl
lines_behind (report ∷ rest) more =
    ap (λ l. progress_line report ++ l) (lines_behind rest more)
    ∙ sym (append_assoc (progress_line report) (progress_lines rest) (progress_lines more))

-- nothing was shown
pub shows_none : {E : Type 0} {told : Bool} {failed : E → ℕ} {written : E → List ℕ} {shows : E → Bool} (sink : E)
    → OnlyShows told failed written shows sink sink
unfolding progress_lines
shows_none {E} {told} {failed} {written} {shows} sink = record {
  failed_as_before = refl;
  same = refl;
  silent = λ no. refl;
  lines = λ is_told. ([], sym (append-nil (written sink)));
}

-- lines behind lines
written_on : (old middle new : List ℕ) (first more : List Report) → middle ≡ old ++ progress_lines first
    → new ≡ middle ++ progress_lines more → new ≡ old ++ progress_lines (first ++ more)
written_on old middle new first more before after =
    after ∙ ap (λ l. l ++ progress_lines more) before
    ∙ append_assoc old (progress_lines first) (progress_lines more)
    ∙ ap (λ l. old ++ l) (sym (lines_behind first more))

-- more was shown behind what was shown
pub shows_more : {E : Type 0} {told : Bool} {failed : E → ℕ} {written : E → List ℕ} {shows : E → Bool}
    (old middle new : E) → OnlyShows told failed written shows old middle
    → OnlyShows told failed written shows middle new → OnlyShows told failed written shows old new
shows_more {E} {told} {failed} {written} {shows} old middle new before after = record {
  failed_as_before = after.failed_as_before ∙ before.failed_as_before;
  same = after.same ∙ before.same;
  silent = λ no. after.silent (before.same ∙ no) ∙ before.silent no;
  lines = λ is_told.
      let one = before.lines is_told in
      let other = after.lines is_told in
      (one.0 ++ other.0, written_on (written old) (written middle) (written new) one.0 other.0 one.1 other.1);
}

-- the line of one report, or nothing
line_or_none : (old new : List ℕ) (report : Report) → (new ≡ old) ⊎ (new ≡ old ++ progress_line report)
    → (reports : List Report) × (new ≡ old ++ progress_lines reports)
unfolding progress_lines
line_or_none old new report (inl same) = ([], same ∙ sym (append-nil old))
line_or_none old new report (inr more) =
    (report ∷ [], more ∙ ap (λ l. old ++ l) (sym (append-nil (progress_line report))))

-- a report was shown
pub shows_one : {E : Type 0} {told : Bool} {failed : E → ℕ} {written : E → List ℕ} {shows : E → Bool} (old new : E)
    (report : Report) → failed new ≡ failed old → shows new ≡ shows old → (shows old ≡ false → new ≡ old)
    → (told ≡ true → (written new ≡ written old) ⊎ (written new ≡ written old ++ progress_line report))
    → OnlyShows told failed written shows old new
shows_one {E} {told} {failed} {written} {shows} old new report count same silent line = record {
  failed_as_before = count;
  same = same;
  silent = silent;
  lines = λ is_told. line_or_none (written old) (written new) report (line is_told);
}
