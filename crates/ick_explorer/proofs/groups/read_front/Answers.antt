use Rattle.std.proofs.Common.{◌≡◌, ◌≢◌, ◌<◌, ◌≤◌, length, take, drop, get_or, arith, rules, subst}
use Rattle.std.proofs.lemmas.List.{take_rest}
use Rattle.std.proofs.lemmas.Grind.{common_steps}
use Rattle.std.specs.Str.Parse.{AllDigits, digits_value}
use Rattle.ick_explorer.specs.ChoiceTexts.{Differs, digit_of}
use Rattle.ick_explorer.specs.Readings.{HasNoDigit, IsCapped}
use Rattle.ick_explorer.proofs.ReadingLaws.{front_is}
use Rattle.ick_explorer.proofs.groups.read_front.Goals as goal
use Rattle.ick_explorer.proofs.groups.read_front.Goals.{in-48-None, in-48-None-2, in-49-None, in-49-None-2}

pub returns-clause-some : goal.returns-clause-some
returns-clause-some c =
    let text = c.args.text.now in
    let size : 3 ≤ length text = grind (arith, common_steps) in
    let choice = c.match-text.choice in
    let begun : (get_or text 0 0 ≡ digit_of choice) × Differs c.args.last choice = elim c.match-text.branch [
      | in-48-None w ↦ search rules
      | in-48-None-2 w ↦ search rules
      | in-49-None w ↦ search rules
      | in-49-None-2 w ↦ search rules
    ] in
    let star : get_or text 1 0 ≡ 42 = grind (arith, common_steps) in
    let no_zero : get_or text 2 0 ≢ 48 = grind (arith, common_steps) in
    let some : 0 < c.read_digits-digits.result.count = grind (arith, common_steps) in
    let rest = take_rest text 2 in
    let digits = c.read_digits-digits.result in
    let found = c.read_digits-digits.ensures in
    front_is text c.args.last choice digits.value digits.count size begun.0 star no_zero begun.1 some
    (subst (λ t. digits.count ≤ length t) rest found.within)
    (subst (λ t. AllDigits 10 (take digits.count t)) rest found.digits)
    (subst (λ t. HasNoDigit (drop digits.count t)) rest found.stops)
    (subst (λ t. IsCapped digits.value (digits_value 10 (take digits.count t))) rest found.value)
