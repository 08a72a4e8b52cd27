use Rattle.ick_stages.specs.Listed.{HasSeen}
use Rattle.ick_stages.proofs.LineLaws.{text_written}
use Rattle.ick_stages.proofs.listed.write_seen.Goals as goal

pub returns-in-Ok-clause-written : goal.returns-in-Ok-clause-written
returns-in-Ok-clause-written g c = λ told.
    let made = c.in-Ok.ensures.piece in
    text_written _ (HasSeen c.args.source.now c.args.start.at c.args.asked.now c.args.one.now) c.clear.new.self
    c.append_next.new.text made.0 _ _ c.write_text.result c.clear.ensures.empty made.2 made.1
    (c.write_text.ensures.written told)
