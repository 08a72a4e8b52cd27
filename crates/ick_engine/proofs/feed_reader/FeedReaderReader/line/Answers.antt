use Rattle.std.proofs.Common.{◌≡◌, true, false, Ok, refl, ap, ◌∙◌, rules}
use Rattle.ick_bits.specs.Digits.{line_answer}
use Rattle.ick_engine.proofs.FeedLemmas.{read_by, read_line, read_nothing}
use Rattle.ick_engine.proofs.feed_reader.FeedReaderReader.line.Goals as goal

pub returns-in-Ok-true-last-clause-next : goal.returns-in-Ok-true-last-clause-next
returns-in-Ok-true-last-clause-next g c =
    let call = c.line-self in
    let was : c.args.self.now.last ≡ Ok true = search rules in
    let some : call.result ≡ Ok true = search rules in
    rw (c.digits_value.ensures.answer ∙ ap line_answer c.deref.ensures.value)
    (read_by call.result (Ok true) was some (read_line refl (call.ensures.one some) (λ tells. call.ensures.some tells some)))

pub returns-in-Ok-false-last-clause-next : goal.returns-in-Ok-false-last-clause-next
returns-in-Ok-false-last-clause-next g c =
    let call = c.line-self in
    let was : c.args.self.now.last ≡ Ok true = search rules in
    let none : call.result ≡ Ok false = search rules in
    read_by call.result (Ok false) was none (read_nothing refl (λ tells. call.ensures.none tells none))
