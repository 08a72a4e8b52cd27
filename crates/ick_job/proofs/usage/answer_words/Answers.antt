use Rattle.std.proofs.Common.{◌≡◌, ◌≤◌, ◌++◌, ap, refl, inl, inr, arith, [], ℕ, List, take}
use Rattle.ick_job.specs.Serve.{counts, memory_failed, nothing_failed, write_failed}
use Rattle.ick_job.specs.Usage.{help_cut, help_without_memory, helped, refused, refused_without_memory}
use Rattle.ick_job.proofs.usage.answer_words.Given.{Over}
use Rattle.ick_job.proofs.usage.answer_words.Goals as goal

-- a text that was written whole left the count of failures
steady : (g : Over) (c : goal.After-drop-text-in-Ok-write_whole g)
    → g.W.ByteSink.failed c.write_whole.new.sink ≡ g.W.ByteSink.failed c.args.writer.now
steady g c = omega (arith, c.in-Ok-write_whole.ensures.count)

-- what was written of a text
cut : (before after text : List ℕ) (most : ℕ) → (n : ℕ) × (n ≤ most) × (after ≡ before ++ take n text)
    → (n : ℕ) × (after ≡ before ++ take n text)
cut before after text most h = (h.0, h.2)

pub returns-then-eq-clause-usage : goal.returns-then-eq-clause-usage
returns-then-eq-clause-usage g c = λ mistake. (refl, (_, _, refused_without_memory, c.report.ensures))

pub returns-then-eq-clause-either : goal.returns-then-eq-clause-either
returns-then-eq-clause-either g c = inl (refl, (_, _, refused_without_memory, c.report.ensures))

pub returns-in_default-clause-either : goal.returns-in_default-clause-either
returns-in_default-clause-either g c = inl (refl, (_, _, refused_without_memory, c.report-in_default.ensures))

pub returns-then-use_stderr-clause-either : goal.returns-then-use_stderr-clause-either
returns-then-use_stderr-clause-either g c = inl (refl, (_, _, refused _, c.finish.ensures))

pub returns-in-Ok-write_whole-clause-either : goal.returns-in-Ok-write_whole-clause-either
returns-in-Ok-write_whole-clause-either g c =
    inr (_, _, helped _ (steady g c) c.in-Ok-write_whole.ensures.all, c.finish-in-Ok-write_whole.ensures)

pub returns-clause-either : goal.returns-clause-either
returns-clause-either g c = inr (
  _,
  _,
  help_cut _ c.in-Err.ensures.count
      (λ told. cut _ _ _ _ (c.in-Err.ensures.beginning told)),
  c.report-in-Err.ensures,
)

pub returns-then-eq-clause-said : goal.returns-then-eq-clause-said
returns-then-eq-clause-said g c = λ files reads. (_, _, memory_failed refl, c.report.ensures)

pub returns-in_default-clause-usage : goal.returns-in_default-clause-usage
returns-in_default-clause-usage g c = λ mistake. (refl, (_, _, refused_without_memory, c.report-in_default.ensures))

pub returns-in_default-clause-help : goal.returns-in_default-clause-help
returns-in_default-clause-help g c = λ request. (_, _, help_without_memory refl refl, c.report-in_default.ensures)

pub returns-in_default-clause-said : goal.returns-in_default-clause-said
returns-in_default-clause-said g c = λ files reads. (_, _, memory_failed refl, c.report-in_default.ensures)

pub returns-then-use_stderr-clause-usage : goal.returns-then-use_stderr-clause-usage
returns-then-use_stderr-clause-usage g c = λ mistake. (refl, (_, _, refused _, c.finish.ensures))

pub returns-then-use_stderr-clause-said : goal.returns-then-use_stderr-clause-said
returns-then-use_stderr-clause-said g c = λ files reads. (_, _, nothing_failed _ 64 refl (inr refl), c.finish.ensures)

pub returns-in-Ok-write_whole-clause-help : goal.returns-in-Ok-write_whole-clause-help
returns-in-Ok-write_whole-clause-help g c = λ request.
    (_, _, helped _ (steady g c) c.in-Ok-write_whole.ensures.all, c.finish-in-Ok-write_whole.ensures)

pub returns-in-Ok-write_whole-clause-said : goal.returns-in-Ok-write_whole-clause-said
returns-in-Ok-write_whole-clause-said g c = λ files reads. (
  _,
  _,
  nothing_failed [] 0 (ap (counts files reads) (steady g c))
      (inl (omega arith)),
  c.finish-in-Ok-write_whole.ensures,
)

pub returns-clause-help : goal.returns-clause-help
returns-clause-help g c =
    λ request. (
      _,
      _,
      help_cut _ c.in-Err.ensures.count
          (λ told. cut _ _ _ _ (c.in-Err.ensures.beginning told)),
      c.report-in-Err.ensures,
    )

pub returns-clause-said : goal.returns-clause-said
returns-clause-said g c =
    λ files reads. (_, _, write_failed (ap (counts files reads) c.in-Err.ensures.count), c.report-in-Err.ensures)
