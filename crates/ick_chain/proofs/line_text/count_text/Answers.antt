use Rattle.std.proofs.Common.{None, sym, subst}
use Rattle.std.specs.Prelude.{option_map}
use Rattle.ick_numbers.specs.Values.{natural}
use Rattle.ick_chain.specs.ExactListings.{IsCount, number, star}
use Rattle.ick_chain.proofs.LongNumbers.{if_ok}
use Rattle.ick_chain.proofs.line_text.count_text.Goals as goal

pub returns-in-Some : goal.returns-in-Some
returns-in-Some c =
    if_ok _ _ c.number_text.result
    (λ text f. subst (λ z. IsCount (option_map natural z) text.items) (sym c.in-Some.is)
    (number (natural c.in-Some.number) text.items f)) c.number_text.ensures

pub returns-in_ok-from_slice-in-None : goal.returns-in_ok-from_slice-in-None
returns-in_ok-from_slice-in-None c =
    let text = c.in_ok-from_slice-in-None in
    subst (λ z. IsCount (option_map natural z) text.field-0.items) (sym c.in-None.is)
    (subst (IsCount None) (sym text.ensures.items) star)
