use Rattle.std.proofs.Common.{◌≡◌, ◌+◌, ap, arith, length, true, ◌∙◌}
use Rattle.ick_step.specs.History.{choices_in}
use Rattle.ick_step.specs.Histories.{history}
use Rattle.ick_session.proofs.CountLaws.{choices_within, one_choice}
use Rattle.ick_session.proofs.session.Session.choose.Goals as goal

pub invariant_of-self-2 : goal.invariant_of-self-2
invariant_of-self-2 c =
    let old = history c.args.self.now.history in
    let new = history c.choose.new.self in
    let asked : c.in_ok-choose.field-0 ≡ true = c.if-not-branch.false in
    let more : length (choices_in new.answers) ≡ length (choices_in old.answers) + 1 =
    ap (λ s. length (choices_in s.answers)) (c.in_ok-choose.ensures.chosen asked) ∙ one_choice old.answers c.args.done in
    let few = choices_within new.answers in
    let room = c.choose.new.self.answers.ok.0 in
    let count : c.saturating_add-self.result ≡ length (choices_in new.answers) =
    omega (arith, more, few, room, c.law.ensures, c.saturating_add-self.ensures) in
    record { kept = ∣ count ∣₁ }
