use Rattle.std.proofs.Common.{◌≡◌, refl}
use Rattle.ick_stages.specs.Faults.{last_line}
use Rattle.ick_stages.proofs.LineLaws.{text_written}
use Rattle.ick_stages.proofs.listed.write_last.Goals as goal

pub returns-clause-written : goal.returns-clause-written
returns-clause-written g c = λ told.
    text_written _ (λ piece. piece ≡ last_line c.args.faults.now) c.new-text.result c.append_last.new.text
    (last_line c.args.faults.now) _ _ c.write_text.result c.new-text.ensures.empty c.append_last.ensures refl
    (c.write_text.ensures.written told)
