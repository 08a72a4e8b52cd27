use Rattle.ick_stages.specs.Listed.{HasFault}
use Rattle.ick_stages.proofs.LineLaws.{text_written}
use Rattle.ick_stages.proofs.listed.write_fault.Goals as goal

pub returns-in-Ok-clause-written : goal.returns-in-Ok-clause-written
returns-in-Ok-clause-written g c = λ told.
    let made = c.in-Ok.ensures in
    text_written _ (HasFault c.args.source.now c.args.seen.now c.args.fault) c.clear.new.self
    c.append_fault_at.new.text made.0 _ _ c.write_text.result c.clear.ensures.empty made.2 made.1
    (c.write_text.ensures.written told)
