use Rattle.std.proofs.Common.{ap, true}
use Rattle.ick_inspect.proofs.AddLaws.{same, then}
use Rattle.ick_stages.specs.Parts.{parts_from}
use Rattle.ick_stages.proofs.parts.append_all.Goals as goal

pub returns : goal.returns
returns c =
    then (then c.append_head_of.ensures
    (same (ap (λ l. parts_from 0 c.args.parts.now.places.from l true) c.deref.ensures.value) c.append_marks.ensures))
    c.append_stop_of.ensures
