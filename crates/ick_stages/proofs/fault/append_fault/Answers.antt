use Rattle.std.proofs.Common.{ap}
use Rattle.ick_inspect.proofs.AddLaws.{same, then}
use Rattle.ick_stages.specs.Faults.{fault_line}
use Rattle.ick_stages.specs.Parts.{bytes_text}
use Rattle.ick_stages.proofs.fault.append_fault.Goals as goal

pub returns : goal.returns
unfolding fault_line
returns c =
    then (then (then (then c.push.ensures c.append_numbers.ensures) c.push-2.ensures)
    (same (ap (λ p. bytes_text c.args.places.now.from p.from p.to) c.faulty_part-part.ensures) c.append_bytes.ensures))
    c.push-3.ensures
