use Rattle.std.proofs.Common.{◌≡◌, true, false, Ok, refl, ap, rules}
use Rattle.ick_engine.proofs.FeedLemmas.{read_by, read_byte, read_no_byte}
use Rattle.ick_engine.proofs.feed_reader.FeedReaderReader.byte.Goals as goal

pub returns-in-Ok-Some-clause-next : goal.returns-in-Ok-Some-clause-next
returns-in-Ok-Some-clause-next g c =
    let last = c.args.self.now.last in
    let was : last ≡ Ok true = search rules in
    read_by last (Ok true) was was (read_byte refl c.in-Ok-Some.byte
    (λ tells. c.in-Ok-Some.ensures.some tells c.in-Ok-Some.byte (ap Ok c.in-Ok-Some.field-0-is)))

pub returns-in-Ok-None-clause-next : goal.returns-in-Ok-None-clause-next
returns-in-Ok-None-clause-next g c =
    let was : c.args.self.now.last ≡ Ok true = search rules in
    read_by (Ok false) (Ok false) was refl
    (read_no_byte refl (λ tells. c.in-Ok-None.ensures.none tells (ap Ok c.in-Ok-None.field-0-is)))
